-- The limits: those of today, and those of document 01. Definitions and laws take them as a parameter.
use Rattle.yard.specs.declared.Limits.{Limits}

-- what the calls keep to
abbrev pub limits : Limits
limits = record { cars = 4096; trains = 256; tracks = 16; room = 4096; steps = 16; passes = 69632 }

-- document 01's, which cards of edition 1 and the fewest passes (#104) keep
abbrev pub first_limits : Limits
first_limits = record { cars = 512; trains = 64; tracks = 8; room = 512; steps = 8; passes = 4608 }
