-- Of the sheets that the library made (Made), and all that ForthAndBack says.
pub mod Made
pub mod ForthAndBack
