-- Nothing is left off: what the programs put out is never longer than their buffer of 24,576 bytes.
use Prim.Native.Nat.{ℕ, zero, suc, ◌+◌, ◌-◌, ◌*◌, ◌≤◌}
use mathlib.Core.Path.{◌≡◌, refl, sym, ap, ap₂, ◌∙◌, subst}
use mathlib.Core.Bool.{Bool, true, false, cond}
use mathlib.Core.List.{List, [], ◌∷◌, ◌++◌}
use native.Mathlib.Nat.{le_refl}
use native.Mathlib.Omega.{arith}
use lib.Dec.{eqb}
use lib.ListN.{length, get_or, take, length-append}
use lib.Seq.{take-suc, take_all}
use borrow.Author.Tests.{le-leb, eqb-true}
use Rattle.yard.specs.declared.Answer.{Answer}
use Rattle.yard.specs.Words.{up_from}
use Rattle.yard.specs.Limits.{limits}
use Rattle.yard.specs.Night.{Plan, sum}
use Rattle.yard.specs.Replay.{built}
use Rattle.yard.specs.Derived.{derived_plan}
use Rattle.yard.specs.Calls.{check_answer}
use Rattle.yard.specs.Card.{card, card_plan}
use Rattle.yard.specs.Demands.{BuildsTrains}
use Rattle.yard.proofs.general.Lists.{total-append}
use Rattle.yard.proofs.yards.Trains.{item_of-suc, train-end}
use Rattle.lines.specs.Text.{Adds}
use Rattle.lines.specs.Lines.{refusal_line, counts_line, train_line, each_to}
use Rattle.lines.proofs.Lengths.{refusal-short, counts-short, train-short}
use Rattle.report.specs.Programs.{buffer_size, unless_refused, read_as, derive_as, train_lines, checked_lines, nightcard_text, of_derived, card_in}
use Rattle.report.specs.Programs.{nightplan_bytes, nightplan_in}
use Rattle.report.proofs.Yields.{Good, checked-good, derived-longest}

-- the lines of the first trains of a good plan
module _ (p : Plan) (good : Good p) where
  lines-short : (k : ℕ) → k ≤ length p.night.lengths → length (each_to (λ t. train_line t (built p t)) k) ≤ 11 * k + 5 * sum (take k p.night.lengths)
  unfolding BuildsTrains
  lines-short zero w = omega arith
  lines-short (suc k) w =
      let lengths = p.night.lengths in
      let len = get_or lengths k 0 in
      let head = suc (sum (take k lengths)) in
      let before : suc k - 1 ≡ k = omega arith in
      let made : built p (suc k) ≡ up_from head len =
      good.builds (suc k) (omega arith, w) ∙ ap₂ up_from (ap (λ j. suc (sum (take j lengths))) before) (item_of-suc lengths k) in
      let more : sum (take (suc k) lengths) ≡ sum (take k lengths) + (len + 0) =
      ap sum (take-suc lengths k 0 w) ∙ total-append (λ x. x) (take k lengths) (len ∷ []) in
      let line : length (train_line (suc k) (built p (suc k))) ≤ 11 + 5 * len =
      subst (λ (l : List ℕ). length (train_line (suc k) l) ≤ 11 + 5 * len) (sym made)
      (train-short (suc k) head len (omega (arith, good.trains)) (omega (arith, train-end lengths k w, good.listed.adds, good.cars))) in
      omega (arith, length-append (each_to (λ t. train_line t (built p t)) k) (train_line (suc k) (built p (suc k))), line, more, lines-short k (omega arith))

  plan-short : (h W C n passes : ℕ) → length (counts_line h W C n (length p.night.lengths) passes ++ train_lines p) ≤ buffer_size
  unfolding train_lines
  plan-short h W C n passes =
      let lengths = p.night.lengths in
      let m = length lengths in
      omega (
        arith,
        length-append (counts_line h W C n m passes) (train_lines p),
        counts-short h W C n m passes,
        lines-short m (le_refl m),
        ap sum (take_all m lengths (le_refl m)),
        good.trains,
        good.listed.adds,
        good.cars,
      )

-- what is put out or refused is short where what is put out is
unless-short : (r : Answer) (out : List ℕ) → (r.number ≡ 0 → length out ≤ buffer_size) → length (unless_refused r out) ≤ buffer_size
unless-short r out short = go (eqb r.number 0) refl
  where
    go : (t : Bool) → eqb r.number 0 ≡ t → length (cond t out (refusal_line r.number r.a r.b)) ≤ buffer_size
    go true e = short (eqb-true r.number 0 e)
    go false e = omega (arith, refusal-short r.number r.a r.b)

pub nightcard-short : (bytes : List ℕ) → length (nightcard_text bytes) ≤ buffer_size
unfolding nightcard_text checked_lines
nightcard-short bytes =
    let p = card_plan bytes in
    let r = check_answer limits p in
    unless-short (read_as bytes) (checked_lines p)
    (λ _.
    unless-short r _
    (λ e. plan-short p (checked-good p e) p.steps p.night.tracks p.night.room (length p.night.inbound) r.a))

pub nightplan-short : (bytes : List ℕ) → length (nightplan_bytes bytes) ≤ buffer_size
unfolding nightplan_bytes of_derived
nightplan-short bytes =
    let n = (card_plan bytes).night in
    unless-short (read_as bytes) (of_derived card n)
    (λ _. unless-short (derive_as n) (card (derived_plan n)) (λ e. omega (arith, derived-longest n e)))

-- The writer's refusal never comes: a buffer that holds the longest card holds that of the derived plan.
unless-same : (r : Answer) (x y : List ℕ) → (r.number ≡ 0 → x ≡ y) → unless_refused r x ≡ unless_refused r y
unless-same r x y same = go (eqb r.number 0) refl
  where
    go : (t : Bool) → eqb r.number 0 ≡ t → cond t x (refusal_line r.number r.a r.b) ≡ cond t y (refusal_line r.number r.a r.b)
    go true e = same (eqb-true r.number 0 e)
    go false e = refl

pub nightplan-fits : (size : ℕ) (bytes : List ℕ) → 15271 ≤ size → nightplan_in size bytes ≡ nightplan_bytes bytes
unfolding nightplan_in nightplan_bytes of_derived
nightplan-fits size bytes enough =
    let n = (card_plan bytes).night in
    let p = derived_plan n in
    ap (unless_refused (read_as bytes))
    (unless-same (derive_as n) (card_in size p) (card p)
    (λ e. ap (λ b. cond b (card p) (refusal_line 4 6 0)) (le-leb (length (card p)) size (omega (arith, derived-longest n e)))))

-- so a buffer of that size holds all of it
pub adds-whole : {out before after : List ℕ} {end : ℕ} → length out ≤ buffer_size → buffer_size ≤ length before → Adds out before 0 end after
    → take end after ≡ out
adds-whole {out} {before} short large adds = adds.text ∙ take_all (length before) out (omega (arith, short, large))
