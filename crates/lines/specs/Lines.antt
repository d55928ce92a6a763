-- The lines of document 01, in ASCII.
use Rattle.std.specs.Prelude.{ℕ, zero, suc, List, [], ◌∷◌, ◌++◌}
use Rattle.std.specs.Prelude.{length}
use Rattle.yard.specs.declared.Answer.{Answer}
use Rattle.yard.specs.Night.{Plan}
use Rattle.lines.specs.Text.{ascii, labelled}

-- refused, number, A and B, set apart by blanks
unfoldable pub refusal_line : ℕ → ℕ → ℕ → List ℕ
refusal_line number a b = labelled "refused " number ++ (labelled " " a ++ (labelled " " b ++ ascii "\n"))

-- the card's h, W, C, n and m, then the passes
unfoldable pub counts_line : ℕ → ℕ → ℕ → ℕ → ℕ → ℕ → List ℕ
counts_line h W C n m passes =
    labelled "steps " h ++
    (labelled " tracks " W ++
    (labelled " room " C ++
    (labelled " cars " n ++
    (labelled " trains " m ++
    (labelled " passes " passes ++
    ascii "\n")))))

-- the same of an answer, and of a plan
abbrev pub answer_line : Answer → List ℕ
answer_line r = refusal_line r.number r.a r.b

abbrev pub plan_line : Plan → ℕ → List ℕ
plan_line p passes =
    let n = p.night in
    counts_line p.steps n.tracks n.room (length n.inbound) (length n.lengths) passes

-- cars, each behind a blank, and the line of a train
abbrev pub car_list : List ℕ → List ℕ
car_list [] = []
car_list (car ∷ cars) = labelled " " car ++ car_list cars

unfoldable pub train_line : ℕ → List ℕ → List ℕ
train_line train cars = labelled "train " train ++ (ascii ":" ++ (car_list cars ++ ascii "\n"))

-- the texts of 1 to n, one behind the other
abbrev pub each_to : (ℕ → List ℕ) → ℕ → List ℕ
each_to text zero = []
each_to text (suc n) = each_to text n ++ text (suc n)
