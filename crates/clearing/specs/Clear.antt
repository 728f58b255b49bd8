-- What clears a row: function 0 (01, "The leg sheet"). Definitions only.
use Rattle.sheet.specs.declared.Entry.{Entry}

abbrev pub cleared : Entry
cleared = record { function = 0; a = 0; b = 0; c = 0; times = 0 }
