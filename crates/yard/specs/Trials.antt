-- The trial nights of document 01 that are marked P, and nights of document 02: what the written meaning says, beside what the
-- documents say.
use Rattle.std.specs.Prelude.{ℕ, Bool, true, false, ◌&&◌, List, [], ◌∷◌, map, reverse, length, take}
use Rattle.yard.specs.declared.Answer.{Answer}
use Rattle.yard.specs.Words.{same, up_from}
use Rattle.yard.specs.Limits.{limits}
use Rattle.yard.specs.Night.{Night, Plan, night_of, cars}
use Rattle.yard.specs.Replay.{yard_at, built}
use Rattle.yard.specs.Codes.{F, fewest_tracks}
use Rattle.yard.specs.Derived.{derived_codes, derived_plan}
use Rattle.yard.specs.Answers.{written}
use Rattle.yard.specs.Calls.{derive_answer, check_answer, replay_answer}
use Rattle.yard.specs.Card.{edition_for, edition_of, card, reader_verdict}

-- a trial's case, what the meaning says, and what the document says
pub record Trial : Type 0 where
  pub trial : ℕ
  pub meaning : List ℕ
  pub document : List ℕ

night_n : ℕ → ℕ → Night
night_n W C = night_of (6 ∷ []) (3 ∷ 6 ∷ 1 ∷ 5 ∷ 2 ∷ 4 ∷ []) false W C

reversed : ℕ → ℕ → Night
reversed n W = night_of (n ∷ []) (reverse (cars n)) false W 512

-- the nights of document 01 are open; the same night, closed
closed : Night → Night
closed n = night_of n.lengths n.inbound true n.tracks n.room

plan : Night → ℕ → List ℕ → Plan
plan n h codes = record { night = n; steps = h; codes = codes }

-- an answer's number, A and B; derive's for a limit, and its codes for limit 8; check's; what stands on a track of the derived plan at a stage
told : Answer → List ℕ
told r = r.number ∷ r.a ∷ r.b ∷ []

derives : Night → ℕ → List ℕ
unfolding told
derives n limit = told (derive_answer limits n limit (length n.inbound))

codes : Night → List ℕ
codes n = written (derive_answer limits n 8 (length n.inbound)) (derived_codes n) []

checks : Plan → List ℕ
unfolding told
checks p = told (check_answer limits p)

-- replay's answer at stage 0, with room in its buffers
replays : Plan → List ℕ
unfolding told
replays p = told (replay_answer limits p 0 512 512)

stands : Night → ℕ → ℕ → List ℕ
stands n stage track = (yard_at (derived_plan n) stage).standing track

trial : ℕ → List ℕ → List ℕ → Trial
trial k meaning document = record { trial = k; meaning = meaning; document = document }

unfoldable pub trials : List Trial
unfolding night_n reversed plan told derives codes checks stands trial
trials =
    trial 1 (derives (night_n 2 512) 8) (0 ∷ 2 ∷ 11 ∷ []) ∷
    trial 1 (codes (night_n 2 512)) (0 ∷ 0 ∷ 1 ∷ 1 ∷ 2 ∷ 3 ∷ []) ∷
    trial 2 (stands (night_n 2 512) 0 0) (3 ∷ 6 ∷ 4 ∷ []) ∷
    trial 2 (stands (night_n 2 512) 0 1) (5 ∷ []) ∷
    trial 2 (stands (night_n 2 512) 0 2) (1 ∷ 2 ∷ []) ∷
    trial 3 (stands (night_n 2 512) 1 0) [] ∷
    trial 3 (stands (night_n 2 512) 1 1) (5 ∷ 6 ∷ []) ∷
    trial 3 (stands (night_n 2 512) 1 2) (1 ∷ 2 ∷ 3 ∷ 4 ∷ []) ∷
    trial 4 (derives (night_n 1 512) 8) (0 ∷ 3 ∷ 13 ∷ []) ∷
    trial 4 (codes (night_n 1 512)) (0 ∷ 0 ∷ 1 ∷ 1 ∷ 3 ∷ 7 ∷ []) ∷
    trial 5 (derives (night_n 2 2) 8) (6 ∷ 0 ∷ 3 ∷ []) ∷
    trial 5 (take 1 (derives (night_n 2 3) 8)) (0 ∷ []) ∷
    trial 6 (built (plan (night_n 2 512) 2 (0 ∷ 0 ∷ 0 ∷ 1 ∷ 2 ∷ 3 ∷ [])) 1) (3 ∷ 1 ∷ 2 ∷ 4 ∷ 5 ∷ 6 ∷ []) ∷
    trial 6 (checks (plan (night_n 2 512) 2 (0 ∷ 0 ∷ 0 ∷ 1 ∷ 2 ∷ 3 ∷ []))) (9 ∷ 3 ∷ 0 ∷ []) ∷
    trial 7 (derives (night_of (1 ∷ []) (1 ∷ []) false 2 512) 8) (0 ∷ 0 ∷ 1 ∷ []) ∷
    trial 7 (codes (night_of (1 ∷ []) (1 ∷ []) false 2 512)) (0 ∷ []) ∷
    trial 8 (take 2 (derives (night_of (1 ∷ 1 ∷ []) (2 ∷ 1 ∷ []) false 2 512) 8)) (0 ∷ 0 ∷ []) ∷
    trial 8 (take 2 (derives (night_of (2 ∷ []) (2 ∷ 1 ∷ []) false 2 512) 8)) (0 ∷ 1 ∷ []) ∷
    trial 9 (take 2 (derives (reversed 7 2) 8)) (0 ∷ 3 ∷ []) ∷
    trial 9 (codes (reversed 7 2)) (0 ∷ 1 ∷ 2 ∷ 3 ∷ 5 ∷ 6 ∷ 7 ∷ []) ∷
    trial 10 (take 2 (derives (reversed 8 2) 8)) (0 ∷ 4 ∷ []) ∷
    trial 10 (take 2 (derives (reversed 8 3) 8)) (0 ∷ 3 ∷ []) ∷
    trial 11 (checks (plan (night_of (1 ∷ []) (1 ∷ []) false 2 512) 3 (4 ∷ []))) (8 ∷ 1 ∷ 0 ∷ []) ∷
    trial 12 (derives (night_of (2 ∷ []) (1 ∷ 1 ∷ []) false 2 512) 8) (3 ∷ 2 ∷ 1 ∷ []) ∷
    trial 13 (derives (night_n 1 512) 2) (5 ∷ 3 ∷ 0 ∷ []) ∷
    []

-- document 01's tables, and its card of case 1 with room for 3; the first number is the tracks, or 0
unfoldable pub tables : List Trial
unfolding night_n trial
tables =
    trial 1 (map (F 1) (up_from 0 9)) (1 ∷ 2 ∷ 3 ∷ 4 ∷ 5 ∷ 6 ∷ 7 ∷ 8 ∷ 9 ∷ []) ∷
    trial 2 (map (F 2) (up_from 0 9)) (1 ∷ 2 ∷ 4 ∷ 7 ∷ 12 ∷ 20 ∷ 33 ∷ 54 ∷ 88 ∷ []) ∷
    trial 3 (map (F 3) (up_from 0 9)) (1 ∷ 2 ∷ 4 ∷ 8 ∷ 15 ∷ 28 ∷ 52 ∷ 96 ∷ 177 ∷ []) ∷
    trial 8 (map (F 8) (up_from 0 9)) (1 ∷ 2 ∷ 4 ∷ 8 ∷ 16 ∷ 32 ∷ 64 ∷ 128 ∷ 256 ∷ []) ∷
    trial 0 (map (fewest_tracks 8) (0 ∷ 4 ∷ 5 ∷ 9 ∷ 129 ∷ 128 ∷ [])) (1 ∷ 3 ∷ 2 ∷ 3 ∷ 7 ∷ 8 ∷ []) ∷
    trial 0 (card (derived_plan (night_n 2 3))) (18 ∷ 32 ∷ 12 ∷ 6 ∷ 2 ∷ 3 ∷ 0 ∷ 96 ∷ 48 ∷ 2 ∷ 2 ∷ 128 ∷ 64 ∷ 32 ∷ 45 ∷ 128 ∷ []) ∷
    []

-- one car alone, and two in one train
one : Night
one = night_of (1 ∷ []) (1 ∷ []) false 2 512

two : Night
two = night_of (2 ∷ []) (1 ∷ 2 ∷ []) false 2 512

-- night N with room for 3 on cards of edition 2: closed, with its derived plan, and open, which belongs on edition 1
closed_card : List ℕ
closed_card = 40 ∷ 196 ∷ 0 ∷ 48 ∷ 3 ∷ 0 ∷ 64 ∷ 12 ∷ 0 ∷ 48 ∷ 3 ∷ 0 ∷ 4 ∷ 0 ∷ 160 ∷ 2 ∷ 0 ∷ 33 ∷ 41 ∷ 58 ∷ []

open_card : List ℕ
open_card = 32 ∷ 132 ∷ 0 ∷ 48 ∷ 3 ∷ 0 ∷ 64 ∷ 12 ∷ 0 ∷ 48 ∷ 3 ∷ 0 ∷ 4 ∷ 0 ∷ 160 ∷ 2 ∷ 0 ∷ 32 ∷ 45 ∷ 128 ∷ []

-- the reader's verdict, with room for six cars in its buffers
reads : List ℕ → List ℕ
unfolding told
reads bytes = told (reader_verdict bytes 6 6 6)

-- nights of the requests of document 02, by their number. 101: a car listed twice, thrice, and a number out of range, also twice.
-- 103: night N closed, one car closed, and one that needs nine steps; a zero code, 7 before it and it before 8, and the same codes in
-- an open night. 108: nights that need nine steps, and one that needs seventeen; F on two tracks up to sixteen steps; the fewest tracks of codes
-- above 255; the edition of plans within edition 1's limits and just outside; cards of edition 2
unfoldable pub requests : List Trial
unfolding night_n reversed closed plan told derives codes checks replays reads trial one two closed_card open_card
requests =
    trial 101 (derives (night_of (5 ∷ []) (2 ∷ 1 ∷ 3 ∷ 1 ∷ 3 ∷ []) false 2 512) 8) (3 ∷ 4 ∷ 2 ∷ []) ∷
    trial 101 (derives (night_of (3 ∷ []) (2 ∷ 2 ∷ 2 ∷ []) false 2 512) 8) (3 ∷ 2 ∷ 1 ∷ []) ∷
    trial 101 (derives (night_of (3 ∷ []) (1 ∷ 4 ∷ 4 ∷ []) false 2 512) 8) (3 ∷ 2 ∷ 0 ∷ []) ∷
    trial 101 (checks (plan (night_of (3 ∷ []) (1 ∷ 2 ∷ 2 ∷ []) false 2 512) 0 (0 ∷ 0 ∷ 0 ∷ []))) (3 ∷ 3 ∷ 2 ∷ []) ∷
    trial 101 (checks (plan (night_of (2 ∷ []) (0 ∷ 0 ∷ []) false 2 512) 0 (0 ∷ 0 ∷ []))) (3 ∷ 1 ∷ 0 ∷ []) ∷
    trial 103 (derives (closed (night_n 2 512)) 8) (0 ∷ 3 ∷ 14 ∷ []) ∷
    trial 103 (codes (closed (night_n 2 512))) (1 ∷ 1 ∷ 2 ∷ 2 ∷ 3 ∷ 5 ∷ []) ∷
    trial 103 (derives (closed one) 8) (0 ∷ 1 ∷ 2 ∷ []) ∷
    trial 103 (codes (closed one)) (1 ∷ []) ∷
    trial 103 (derives (closed one) 0) (5 ∷ 1 ∷ 0 ∷ []) ∷
    trial 103 (derives (closed (reversed 9 1)) 8) (5 ∷ 9 ∷ 0 ∷ []) ∷
    trial 103 (checks (plan (closed (night_n 2 512)) 2 (1 ∷ 1 ∷ 0 ∷ 1 ∷ 0 ∷ 3 ∷ []))) (14 ∷ 3 ∷ 0 ∷ []) ∷
    trial 103 (replays (plan (closed (night_n 2 512)) 2 (1 ∷ 1 ∷ 0 ∷ 1 ∷ 0 ∷ 3 ∷ []))) (14 ∷ 3 ∷ 0 ∷ []) ∷
    trial 103 (checks (plan (closed two) 1 (0 ∷ 2 ∷ []))) (7 ∷ 2 ∷ 0 ∷ []) ∷
    trial 103 (checks (plan (closed two) 3 (4 ∷ 0 ∷ []))) (14 ∷ 2 ∷ 0 ∷ []) ∷
    trial 103 (checks (plan two 3 (4 ∷ 0 ∷ []))) (8 ∷ 1 ∷ 0 ∷ []) ∷
    trial 108 (derives (reversed 10 1) 16) (0 ∷ 9 ∷ 55 ∷ []) ∷
    trial 108 (derives (closed (reversed 9 1)) 16) (0 ∷ 9 ∷ 54 ∷ []) ∷
    trial 108 (derives (reversed 18 1) 16) (5 ∷ 17 ∷ 0 ∷ []) ∷
    trial 108 (map (F 2) (up_from 8 9)) (88 ∷ 143 ∷ 232 ∷ 376 ∷ 609 ∷ 986 ∷ 1596 ∷ 2583 ∷ 4180 ∷ []) ∷
    trial 108 (map (fewest_tracks 16) (128 ∷ 255 ∷ 256 ∷ 257 ∷ 32768 ∷ 65535 ∷ [])) (8 ∷ 1 ∷ 9 ∷ 8 ∷ 16 ∷ 1 ∷ []) ∷
    trial 108 (edition_for false 512 64 8 512 8 ∷ edition_for false 513 64 8 512 8 ∷ edition_for false 512 65 8 512 8 ∷ []) (1 ∷ 2 ∷ 2 ∷ []) ∷
    trial 108 (map (λ C. edition_of (plan (night_n 8 C) 8 [])) (512 ∷ 513 ∷ [])) (1 ∷ 2 ∷ []) ∷
    trial 108 (edition_of (plan (night_n 9 3) 2 []) ∷ edition_of (plan (night_n 8 3) 9 []) ∷ edition_of (plan (closed (night_n 2 3)) 2 []) ∷ []) (2 ∷ 2 ∷ 2 ∷ []) ∷
    trial 108 (card (derived_plan (closed (night_n 2 3)))) closed_card ∷
    trial 108 (reads closed_card) (0 ∷ 0 ∷ 0 ∷ []) ∷
    trial 108 (reads (take 6 closed_card)) (10 ∷ 7 ∷ 0 ∷ []) ∷
    trial 108 (reads open_card) (17 ∷ 0 ∷ 0 ∷ []) ∷
    []

-- all of them agree
abbrev pub agree : List Trial → Bool
agree [] = true
agree (t ∷ ts) = same t.meaning t.document && agree ts
