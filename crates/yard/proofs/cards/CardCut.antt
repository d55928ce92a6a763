-- A long input cut: the reader needs no more of its bytes than one beyond the longest card, 15,271, to give the verdict of the whole.
use Prim.Native.Nat.{ℕ, zero, suc, ◌+◌, ◌*◌, ◌^◌, ◌≤◌}
use mathlib.Core.Path.{◌≡◌, refl, sym, ap, ap₂, ◌∙◌}
use mathlib.Core.Bool.{Bool, true, false, cond}
use mathlib.Core.List.{List, [], ◌∷◌, ◌++◌, append_assoc}
use native.Mathlib.Nat.{not-suc-le-zero, le_of_suc-le-suc}
use native.Mathlib.Omega.{arith}
use lib.Dec.{leb, eqb}
use lib.ListN.{length, take, drop, length-append, length-drop}
use lib.Seq.{drop-append-le}
use borrow.Author.Tests.{le-leb, eqb-true}
use Rattle.yard.specs.declared.Answer.{Answer}
use Rattle.yard.specs.declared.Head.{Head}
use Rattle.yard.specs.Words.{every}
use Rattle.yard.specs.Night.{Plan, plan_of, closed_by, sum}
use Rattle.yard.specs.Answers.{says, test, verdict, answers, list_test}
use Rattle.yard.specs.Calls.{night_tests}
use Rattle.yard.specs.Bits.{from_bits, to_bits, unpacked, bits_of}
use Rattle.yard.specs.Card.{layout, head_widths, head_from, list_widths, widths, head_length, card_length, head_on, lists_on, card_plan, right_length, ends_right}
use Rattle.yard.specs.Card.{limits_of, known, edition_of, head_counts, HeadWithin, reader_verdict}
use Rattle.yard.proofs.general.Bools.{and_right, not_so, clash}
use Rattle.yard.proofs.general.Lists.{total-append}
use Rattle.yard.proofs.cards.Bits.{length-bits_of}
use Rattle.yard.proofs.calls.Verdict.{Passed}
use Rattle.yard.proofs.calls.Tests.{counts-passed}
use Rattle.yard.proofs.cards.Card.{widths-longest, head-longest}
use Rattle.yard.proofs.cards.Editions.{edition-suits}
use Rattle.yard.proofs.CardDemands.{reader-accepts-exactly}

-- ---- fields read from bits, where more bits follow

from_bits-front : (w : ℕ) (x y : List ℕ) → w ≤ length x → from_bits w (x ++ y) ≡ from_bits w x
from_bits-front zero x y h = refl
from_bits-front (suc w) [] y h = absurd (not-suc-le-zero h)
from_bits-front (suc w) (b ∷ x) y h = ap (λ k. b * 2 ^ w + k) (from_bits-front w x y (le_of_suc-le-suc h))

unpacked-front : (ws x y : List ℕ) → sum ws ≤ length x → unpacked ws (x ++ y) ≡ unpacked ws x
unpacked-front [] x y h = refl
unpacked-front (w ∷ ws) x y h =
    ap₂ (λ (k : ℕ) (l : List ℕ). k ∷ l) (from_bits-front w x y (omega arith))
    (ap (unpacked ws) (drop-append-le w x y (omega arith)) ∙ unpacked-front ws (drop w x) y (omega (arith, length-drop w x)))

bits_of-append : (x y : List ℕ) → bits_of (x ++ y) ≡ bits_of x ++ bits_of y
bits_of-append [] y = refl
bits_of-append (b ∷ x) y = ap (λ l. to_bits 8 b ++ l) (bits_of-append x y) ∙ sym (append_assoc (to_bits 8 b) (bits_of x) (bits_of y))

-- two verdicts are one where the tests before them refuse, or they are the same
verdict-same : (ts : List Answer) (x y : Answer) → (Passed ts → x ≡ y) → verdict ts x ≡ verdict ts y
verdict-same [] x y same = same tt
verdict-same (t ∷ ts) x y same = go (verdict-same ts x y) (eqb t.number 0) refl
  where
    go : ((Passed ts → x ≡ y) → verdict ts x ≡ verdict ts y) → (b : Bool) → eqb t.number 0 ≡ b → cond b (verdict ts x) t ≡ cond b (verdict ts y) t
    go later true e = later (λ p. same (eqb-true t.number 0 e, p))
    go later false e = refl

-- the widths of a card are those of its head and of its lists
widths-parts : (h : Head) → sum (widths h) ≡ sum (head_widths (layout h.edition)) + sum (list_widths h)
widths-parts h = total-append (λ x. x) (head_widths (layout h.edition)) (list_widths h)

-- ---- a head in range announces a card that is no longer than the longest

counts : Head → List Answer
counts h = answers (head_counts h)

counts-in : (h : Head) → Passed (counts h) → HeadWithin (limits_of h.edition) h
unfolding counts
counts-in h passed = (counts-passed (limits_of h.edition) h.cars h.trains h.tracks h.room h.steps).0 passed

-- and more bytes than that do not end right
too_long : (bytes : List ℕ) → 15272 ≤ length bytes → Passed (counts (head_on bytes)) → ends_right bytes ≡ false
unfolding ends_right right_length
too_long bytes long passed =
    not_so (ends_right bytes)
    (λ t.
    let size = length bytes in
    let zeros = every (λ b. eqb b 0) (drop (sum (widths (head_on bytes))) (bits_of bytes)) in
    let most = head-longest (head_on bytes) (counts-in (head_on bytes) passed) in
    absurd (omega (arith, most, eqb-true size (right_length bytes) (and_right zeros (eqb size (right_length bytes)) t))))

-- a head has fewer bits than the longest card
head_few : (edition : ℕ) → sum (head_widths (layout edition)) ≤ 15271 * 8
head_few edition = omega (arith, (edition-suits edition).longest)

-- the lists behind a head, and the plan of both
lists_from : Head → List ℕ → List ℕ
lists_from h bits = unpacked (list_widths h) (drop (sum (head_widths (layout h.edition))) bits)

plan_from : Head → List ℕ → Plan
plan_from h lists =
    let by_car = drop h.trains lists in
    plan_of (take h.trains lists) (take h.cars by_car) (closed_by h.mark) h.tracks h.room h.steps (drop h.cars by_car)

-- ---- the reader's verdict, with what hangs on the bytes behind the head set apart

begins : Bool → Bool → Head → List Answer
begins some whole h =
    test some (says 10 1 0) ∷ test (known h.edition) (says 11 h.edition 0) ∷ test whole (says 10 (head_length h) 0) ∷ counts h

module _ (a b c : ℕ) where
  body : Head → Bool → Plan → Bool → Answer
  body h whole p ends =
      verdict
      (test whole (says 10 (card_length h) 0) ∷
      list_test 1 (leb h.trains a) ∷
      list_test 2 (leb h.cars b) ∷
      list_test 3 (leb h.cars c) ∷
      night_tests p.night ++
      (test ends (says 12 (card_length h) 0) ∷ test (eqb (edition_of p) h.edition) (says 17 0 0) ∷ []))
      (says 0 0 0)

  reader-parts : (bytes : List ℕ)
      → let h = head_on bytes in
      reader_verdict bytes a b c
      ≡ verdict (begins (leb 1 (length bytes)) (leb (head_length h) (length bytes)) h)
      (body h (leb (card_length h) (length bytes)) (card_plan bytes) (ends_right bytes))
  unfolding reader_verdict right_length counts begins body
  reader-parts bytes = refl

  -- the verdict on more bytes than any card has
  long-verdict : (bytes : List ℕ) (p : Plan)
      → 15272 ≤ length bytes
      → (Passed (counts (head_on bytes)) → card_plan bytes ≡ p)
      → reader_verdict bytes a b c ≡ verdict (begins true true (head_on bytes)) (body (head_on bytes) true p false)
  unfolding begins head_length
  long-verdict bytes p long plan =
      let h = head_on bytes in
      let n = length bytes in
      reader-parts bytes
      ∙ ap₂ (λ (some whole : Bool). verdict (begins some whole h) (body h (leb (card_length h) n) (card_plan bytes) (ends_right bytes)))
      (le-leb 1 n (omega arith))
      (le-leb (head_length h) n (omega (arith, head_few h.edition)))
      ∙ verdict-same (begins true true h) (body h (leb (card_length h) n) (card_plan bytes) (ends_right bytes)) (body h true p false) same
    where
      same : Passed (begins true true (head_on bytes))
          → body (head_on bytes) (leb (card_length (head_on bytes)) (length bytes)) (card_plan bytes) (ends_right bytes) ≡ body (head_on bytes) true p false
      same (some, (edition, (whole, passed))) =
          let h = head_on bytes in
          ap (λ t. body h t (card_plan bytes) (ends_right bytes)) (le-leb (card_length h) (length bytes) (omega (arith, head-longest h (counts-in h passed))))
          ∙ ap₂ (λ (q : Plan) (t : Bool). body h true q t) (plan passed) (too_long bytes long passed)

  module _ (x y : List ℕ) (long : 15272 ≤ length x) where
    edition-cut : from_bits 4 (bits_of (x ++ y)) ≡ from_bits 4 (bits_of x)
    edition-cut = ap (from_bits 4) (bits_of-append x y) ∙ from_bits-front 4 (bits_of x) (bits_of y) (omega (arith, length-bits_of x))

    head-cut : head_on (x ++ y) ≡ head_on x
    unfolding head_on
    head-cut =
        let l = layout (from_bits 4 (bits_of x)) in
        ap (λ e. head_from (unpacked (head_widths (layout e)) (bits_of (x ++ y)))) edition-cut
        ∙ ap (λ bits. head_from (unpacked (head_widths l) bits)) (bits_of-append x y)
        ∙ ap head_from (unpacked-front (head_widths l) (bits_of x) (bits_of y) (omega (arith, length-bits_of x, head_few (from_bits 4 (bits_of x)))))

    plan-cut : Passed (counts (head_on x)) → card_plan (x ++ y) ≡ card_plan x
    unfolding card_plan lists_on lists_from plan_from
    plan-cut passed =
        ap (λ h. plan_from h (lists_from h (bits_of (x ++ y)))) head-cut
        ∙ ap (plan_from (head_on x)) (ap (lists_from (head_on x)) (bits_of-append x y) ∙ lists-cut)
      where
        h : Head
        h = head_on x

        front : ℕ
        front = sum (head_widths (layout h.edition))

        enough : front + sum (list_widths h) ≤ length (bits_of x)
        enough = omega (arith, widths-longest h (counts-in h passed), length-bits_of x, widths-parts h)

        lists-cut : lists_from h (bits_of x ++ bits_of y) ≡ lists_from h (bits_of x)
        lists-cut =
            ap (unpacked (list_widths h)) (drop-append-le front (bits_of x) (bits_of y) (omega (arith, enough)))
            ∙ unpacked-front (list_widths h) (drop front (bits_of x)) (bits_of y) (omega (arith, enough, length-drop front (bits_of x)))

    pub reader-cut : reader_verdict (x ++ y) a b c ≡ reader_verdict x a b c
    reader-cut =
        long-verdict (x ++ y) (card_plan x) (omega (arith, length-append x y, long)) (λ passed. plan-cut (rw head-cut at passed))
        ∙ ap (λ h. verdict (begins true true h) (body h true (card_plan x) false)) head-cut
        ∙ sym (long-verdict x (card_plan x) long (λ _. refl))

  -- no input longer than the longest card is read
  pub long-refused : (bytes : List ℕ) → 15272 ≤ length bytes → (reader_verdict bytes a b c).number ≡ 0 → ⊥
  unfolding counts
  long-refused bytes long e =
      let r = (reader-accepts-exactly bytes a b c).0 e in
      let h = head_on bytes in
      clash r.ends
      (too_long bytes long ((counts-passed (limits_of h.edition) h.cars h.trains h.tracks h.room h.steps).1 r.counts))
