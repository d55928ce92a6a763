-- The tests of a call's two lists, by the lists alone.
use Rattle.std.specs.Prelude.{false, List, ℕ}
use Rattle.yard.specs.declared.Answer.{Answer}
use Rattle.yard.specs.Night.{night_of}
use Rattle.yard.specs.Calls.{night_tests}

-- the tests 2 and 3 of a night with these lists, whatever its mark, its tracks and its room
abbrev pub list_tests : List ℕ → List ℕ → List Answer
list_tests lengths inbound = night_tests (night_of lengths inbound false 0 0)
