-- Laws of text put at the front of a buffer: nothing, as much of a piece as fits, and one piece behind another.
use Prim.Native.Nat.{ℕ, zero, suc, ◌+◌, ◌-◌, ◌≤◌, min}
use mathlib.Core.Path.{◌≡◌, refl, sym, ap, ap₂, ◌∙◌}
use mathlib.Core.Logic.{⊎_elim}
use mathlib.Core.List.{List, [], ◌∷◌, ◌++◌, append_assoc, append-nil}
use native.Mathlib.Omega.{arith}
use lib.ListN.{length, take, drop, length-append, length-take, take-append-drop}
use lib.Seq.{length-take-le, take_all, take-append-add, drop-drop}
use borrow.Rule.Slice.PartMut.{put_mid, same_len_mid}
use Rattle.std.proofs.lemmas.List.{length-drop}
use Rattle.std.proofs.lemmas.Slice.{take-put_mid, drop-put_mid}
use Rattle.yard.proofs.general.Numbers.{le-or-lt}
use Rattle.io.specs.Counts.{IsPrefixLen}
use Rattle.yard.specs.Answers.{onto}
use Rattle.yard.proofs.general.Fronts.{front-taken, front-left, front_long}
use Rattle.lines.specs.declared.text.Text.{Text}
use Rattle.lines.specs.Text.{Adds, Grows}

-- what is left off once need not be looked at again
take-over : (n : ℕ) (l m : List ℕ) → take n (take n l ++ m) ≡ take n (l ++ m)
take-over zero l m = refl
take-over (suc n) [] m = refl
take-over (suc n) (x ∷ l) m = ap (λ k. x ∷ k) (take-over n l m)

pub adds_none : (text : List ℕ) (at : ℕ) → at ≤ length text → Adds [] text at at text
adds_none text at w =
    record {
      size = refl;
      within = w;
      text = sym (ap (take (length text)) (append-nil (take at text)) ∙ take_all (length text) (take at text) (omega (arith, length-take-le at text w)));
      rest = refl;
    }

-- as much of a piece as fits, behind the text
pub adds-some : (piece text : List ℕ) (at n : ℕ)
    → at ≤ length text
    → n ≡ min (length piece) (length text - at)
    → Adds piece text at (at + n) (put_mid at (at + n - at) text (take n piece))
adds-some piece text at n w some =
    let room = length text - at in
    let few : n ≤ room = omega (arith, some) in
    let long : length (take n piece) ≡ n = length-take-le n piece (omega (arith, some)) in
    let there : length (take at text) ≡ at = length-take-le at text w in
    let span : at + n - at ≡ n = omega arith in
    let size : length (put_mid at (at + n - at) text (take n piece)) ≡ length text =
    same_len_mid at (at + n - at) text (take n piece)
    (omega (arith, long, span, few, length-drop at text, length-take-le (at + n - at) (drop at text) (omega (arith, span, few, length-drop at text)))) in
    let cut : take n piece ≡ take room piece =
    ⊎_elim (λ all. take_all n piece (omega (arith, some, all)) ∙ sym (take_all room piece all))
    (λ more. ap (λ k. take k piece) (omega (arith, some, more)))
    (le-or-lt (length piece) room) in
    record {
      size = size;
      within = omega (arith, few, size);
      text =
          take-put_mid at (at + n - at) text (take n piece) (at + n) (omega (arith, long)) w
          ∙ ap (λ l. take at text ++ l) cut
          ∙ sym (ap (λ k. take k (take at text ++ piece)) (omega (arith, there)) ∙ take-append-add (take at text) piece room);
      rest = drop-put_mid at (at + n - at) text (take n piece) (at + n) (omega arith) w (long ∙ sym span);
    }

-- a piece at the front of a buffer that holds it, and behind it what was there
pub adds-front : {after : List ℕ} {r : ℕ} (piece before : List ℕ)
    → length piece ≤ length before
    → r ≡ length piece
    → after ≡ onto piece before
    → Adds piece before 0 r after
adds-front piece before fits end put =
    let size = front_long piece before put fits in
    record {
      size = size;
      within = omega (arith, end, size, fits);
      text = front-taken piece before put (sym end) ∙ sym (take_all (length before) piece fits);
      rest = front-left piece before put (sym end);
    }

-- text grows: where it ends after a piece is no earlier than before
adds-grows : {piece before after : List ℕ} {at end : ℕ} → at ≤ length before → Adds piece before at end after → at ≤ end
adds-grows {piece} {before} {after} {at} {end} w f =
    omega (
      arith,
      length-take-le end after f.within,
      ap length f.text,
      length-take (length before) (take at before ++ piece),
      length-append (take at before) piece,
      length-take-le at before w,
    )

-- what lies behind the end of one list lies behind any later end
drop-later : (l m : List ℕ) (end last : ℕ) → end ≤ last → drop end l ≡ drop end m → drop last l ≡ drop last m
drop-later l m end last w e =
    let there : end + (last - end) ≡ last = omega arith in
    ap (λ k. drop k l) (sym there) ∙ sym (drop-drop (last - end) end l) ∙ ap (drop (last - end)) e ∙ drop-drop (last - end) end m ∙ ap (λ k. drop k m) there

-- One piece behind another is one piece.
pub adds_then : {a b x y z : List ℕ} {at end last : ℕ} → Adds a x at end y → Adds b y end last z → Adds (a ++ b) x at last z
adds_then {a = a} {b = b} {x = x} {y = y} {at = at} {end = end} {last = last} f g =
    record {
      rest = g.rest ∙ drop-later y x end last (adds-grows f.within g) f.rest;
      size = g.size ∙ f.size;
      within = g.within;
      text =
          g.text
          ∙ ap (λ n. take n (take end y ++ b)) f.size
          ∙ ap (λ l. take (length x) (l ++ b)) f.text
          ∙ take-over (length x) (take at x ++ a) b
          ∙ ap (take (length x)) (append_assoc (take at x) a b);
    }

-- the same piece, written another way
pub adds_same : {a b x y : List ℕ} {at end : ℕ} → a ≡ b → Adds a x at end y → Adds b x at end y
adds_same {x = x} {at = at} e f =
    record { size = f.size; within = f.within; text = f.text ∙ ap (λ l. take (length x) (take at x ++ l)) e; rest = f.rest }

-- One place where the text ends, and one content of the buffer.
pub adds_one : {piece before after other : List ℕ} {at r s : ℕ} → Adds piece before at r after → Adds piece before at s other → (r ≡ s) × (after ≡ other)
adds_one {before = before} {after = after} {other = other} {r = r} {s = s} f g =
    let text : take r after ≡ take s other = f.text ∙ sym g.text in
    let ends : r ≡ s = sym (length-take-le r after f.within) ∙ ap length text ∙ length-take-le s other g.within in
    let rest : drop r after ≡ drop s other = f.rest ∙ ap (λ k. drop k before) ends ∙ sym g.rest in
    (ends, sym (take-append-drop r after) ∙ ap₂ (λ (t u : List ℕ). t ++ u) text rest ∙ take-append-drop s other)

-- where the text ends is a count of the buffer's bytes
pub adds-end : {piece before after : List ℕ} {at r : ℕ} → Adds piece before at r after → Adds piece before at r after × IsPrefixLen r after
adds-end {after = after} {r = r} f = (f, (f.within, sym (length-take-le r after f.within)))

-- the same of a text in its buffer: no piece, one piece behind another, and the same piece, written another way
pub grows_none : (text : Text) → Grows [] text text
grows_none text = record { lender = refl; adds = adds_none text.buffer.now text.end text.within }

pub grows_then : {a b : List ℕ} {x y z : Text} → Grows a x y → Grows b y z → Grows (a ++ b) x z
grows_then f g = record { lender = g.lender ∙ f.lender; adds = adds_then f.adds g.adds }

pub grows_same : {a b : List ℕ} {x y : Text} → a ≡ b → Grows a x y → Grows b x y
grows_same e f = record { lender = f.lender; adds = adds_same e f.adds }
