-- Laws of a buffer that is written from the front.
use mathlib.Core.Path.{◌≡◌, refl, sym, ap, ap₂, ◌∙◌, subst}
use mathlib.Core.List.{List, [], ◌∷◌, ◌++◌, map, append_assoc, append-nil, map-append}
use Prim.Native.Nat.{ℕ, suc, ◌+◌, ◌-◌, ◌≤◌, ◌<◌}
use native.Mathlib.Nat.{add-zero}
use native.Mathlib.Numerals.{add-one}
use native.Mathlib.Omega.{arith}
use lib.ListN.{length, get_or, take, drop, set, get_or-append, length-append, take-append-drop, drop_of_length-le}
use lib.Seq.{take-suc, drop-cons, set_at, get_or-drop, drop-drop, length-take-le}
use Rattle.yard.proofs.general.Fronts.{front-taken, front-left, front-within}
use Rattle.scan.specs.Front.{Front}

pub front-none : (s : List ℕ) → Front [] s 0 s
front-none s = record { number = refl; listed = refl }

-- what stands at the front, and behind it
module _ {items s t : List ℕ} {n : ℕ} (f : Front items s n t) where
  pub front_items : take n t ≡ items
  front_items = front-taken items s f.listed (sym f.number)

  pub front_rest : drop n t ≡ drop n s
  front_rest = front-left items s f.listed (sym f.number)

  pub front_fits : n ≤ length t
  front_fits = front-within items s f.listed (sym f.number)

  pub front-item : (k : ℕ) → k < n → get_or t k 0 ≡ get_or items k 0
  front-item k m =
      ap (λ (u : List ℕ). get_or u k 0) f.listed ∙ get_or-append items (drop (length items) s) 0 k (omega (arith, f.number))

  pub front-behind : get_or t n 0 ≡ get_or s n 0
  front-behind =
      let at : n + 0 ≡ n = add-zero n in
      ap (λ (k : ℕ). get_or t k 0) (sym at) ∙
      (sym (get_or-drop n t 0 0) ∙ (ap (λ (u : List ℕ). get_or u 0 0) front_rest ∙ (get_or-drop n s 0 0 ∙ ap (λ (k : ℕ). get_or s k 0) at)))

  -- one item more
  pub front-next : (x : ℕ) → n < length s → Front (items ++ x ∷ []) s (n + 1) (set t n x)
  front-next x m =
      record {
        number = omega (arith, f.number, more);
        listed =
            ap (λ (u : List ℕ). set u n x) (f.listed ∙ ap (λ (u : List ℕ). items ++ u) rest) ∙
            (set_at items (get_or s n 0) (drop (suc n) s) x n (sym f.number) ∙
            (sym (append_assoc items (x ∷ []) (drop (suc n) s)) ∙ ap (λ (k : ℕ). (items ++ x ∷ []) ++ drop k s) behind));
      }
    where
      more : length (items ++ x ∷ []) ≡ length items + 1
      more = length-append items (x ∷ [])

      rest : drop (length items) s ≡ get_or s n 0 ∷ drop (suc n) s
      rest = ap (λ (k : ℕ). drop k s) (sym f.number) ∙ drop-cons s n 0 m

      behind : suc n ≡ length (items ++ x ∷ [])
      behind = omega (arith, f.number, more)

  -- where nothing is left behind, the items are all
  pub front-end : length s ≤ n → t ≡ items
  front-end l =
      let past : length s ≤ length items = omega (arith, f.number) in
      f.listed ∙ (ap (λ (u : List ℕ). items ++ u) (drop_of_length-le s past) ∙ append-nil items)

-- a list goes behind what stands at the front item by item, each through g
pub front-through : (front : List ℕ) (g : ℕ → ℕ) (l : List ℕ) {s t : List ℕ} {i n : ℕ} → i < length l → n < length s →
    Front (front ++ map g (take i l)) s n t → Front (front ++ map g (take (i + 1) l)) s (n + 1) (set t n (g (get_or l i 0)))
front-through front g l {s} {t} {i} {n} m room f =
    let more : take (i + 1) l ≡ take i l ++ (get_or l i 0 ∷ []) = rw add-one (take-suc l i 0 m) in
    let through = map-append g (take i l) (get_or l i 0 ∷ []) in
    subst (λ (u : List ℕ). Front u s (n + 1) (set t n (g (get_or l i 0))))
    (sym
    (ap (λ (u : List ℕ). front ++ map g u) more ∙
    (ap (λ (u : List ℕ). front ++ u) through ∙ sym (append_assoc front (map g (take i l)) (g (get_or l i 0) ∷ [])))))
    (front-next f (g (get_or l i 0)) room)

-- what stands at the front already, and what is made of it where more is written
pub front-whole : (s : List ℕ) (n : ℕ) → n ≤ length s → Front (take n s ++ []) s (n + 0) s
front-whole s n m =
    let long = length-take-le n s m in
    rw (append-nil, add-zero)
    (record { number = sym long; listed = sym (take-append-drop n s) ∙ ap (λ (k : ℕ). take n s ++ drop k s) (sym long) })

pub front-first : (front more : List ℕ) {s t : List ℕ} {n : ℕ} (k : ℕ) → k < length front → Front (front ++ more) s n t →
    get_or t k 0 ≡ get_or front k 0
front-first front more k m f = front-item f k (omega (arith, f.number, length-append front more)) ∙ get_or-append front more 0 k m

pub front-over : (make : List ℕ → List ℕ) {items s t u : List ℕ} {n r : ℕ} → n ≤ r → Front items s n t → Front (make (take n t)) t r u →
    Front (make items) s r u
front-over make {items} {s} {t} {u} {n} {r} m f g =
    let rest : drop r t ≡ drop r s = past t ∙ (ap (drop (r - n)) (front_rest f) ∙ sym (past s)) in
    let made : make (take n t) ≡ make items = ap make (front_items f) in
    let count : r ≡ length (make items) = g.number ∙ ap length made in
    record {
      number = count;
      listed =
          g.listed ∙
          (ap₂ (λ (l : List ℕ) (k : ℕ). l ++ drop k t) made (sym g.number) ∙
          (ap (λ (l : List ℕ). make items ++ l) rest ∙ ap (λ (k : ℕ). make items ++ drop k s) count));
    }
  where
    past : (l : List ℕ) → drop r l ≡ drop (r - n) (drop n l)
    past l =
        let again : n + (r - n) ≡ r = omega arith in
        sym (drop-drop (r - n) n l ∙ ap (λ (k : ℕ). drop k l) again)
