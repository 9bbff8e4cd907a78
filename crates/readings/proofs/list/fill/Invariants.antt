use Rattle.std.proofs.Common.{◌≡◌, map, take}
use Rattle.readings.specs.Readings.{section_of}
use Rattle.readings.proofs.list.fill.Given as goal

abbrev pub invariant-loop-i : goal.invariant-loop-i
invariant-loop-i l = take l.i l.places ≡ map section_of (take l.i l.readings)
