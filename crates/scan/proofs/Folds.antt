-- What a fold over a list tells: its sum, its largest item, whether all items pass a test. The premises are as std tells them.
use mathlib.Core.Path.{◌≡◌, refl, sym, ap, ◌∙◌}
use mathlib.Core.Bool.{Bool, ◌&&◌, and_assoc, and-true}
use mathlib.Core.List.{List, [], ◌∷◌, ◌++◌}
use Prim.Native.Nat.{ℕ, max}
use native.Mathlib.Omega.{arith}
use Rattle.std.specs.List.{fold, sum_by}
use Rattle.std.proofs.lemmas.List.Recursion.{is_sum_by}
use Rattle.yard.specs.Words.{most, every}
use Rattle.yard.specs.Night.{sum}

pub sum_from_sum : {r : ℕ} (l : List ℕ) → r ≡ sum_by (λ x. x) l → r ≡ sum l
sum_from_sum l e = e ∙ sym (is_sum_by sum (λ x. x) refl (λ x xs. refl) l)

pub most_from_fold : {r : ℕ} (l : List ℕ) → r ≡ fold (λ a x. max a x) 0 l → r ≡ most (λ x. x) l
most_from_fold l e = omega (arith, on 0 l)
  where
    on : (a : ℕ) (l : List ℕ) → fold (λ a x. max a x) a l ≡ max a (most (λ x. x) l)
    on a [] = omega arith
    on a (x ∷ l) = omega (arith, on (max a x) l)

-- one item more
pub every-push : (p : ℕ → Bool) (l : List ℕ) (x : ℕ) → every p (l ++ x ∷ []) ≡ (every p l && p x)
every-push p [] x = and-true (p x)
every-push p (y ∷ l) x = ap (λ b. p y && b) (every-push p l x) ∙ sym (and_assoc (p y) (every p l) (p x))
