-- What `trains` has done after the first t trains, and what one train more adds.
use mathlib.Core.Path.{◌≡◌, refl, sym, ap, ap₂, ◌∙◌, subst}
use mathlib.Core.List.{List, [], ◌∷◌, ◌++◌}
use Prim.Native.Nat.{ℕ, ◌+◌, ◌-◌, ◌≤◌, ◌<◌}
use native.Mathlib.Omega.{arith}
use lib.ListN.{length, get_or, take, drop, length-append, length-drop, length-map, take-append-drop}
use lib.Seq.{take_at, drop_at, take-take, get_or-take, drop-drop, length-take-le, take-append-le, drop-append-le}
use Rattle.std.specs.declared.ops.Range.{Range}
use Rattle.yard.specs.Limits.{first_limits}
use Rattle.yard.specs.Night.{sum}
use Rattle.yard.proofs.general.Numbers.{below_more}
use Rattle.yard.proofs.yards.Trains.{train-end}
use Rattle.trains.specs.Walk.{Walked, Ends}
use Rattle.trains.proofs.Walk.{walked_none, reached, Stands, before_it, behind_it}
use Rattle.blocks.specs.Trains.{Blocked, Chosen, part_of, AllBlocked, AllChosen}

-- a part of a list's front
part-front : (s k : ℕ) (front rest : List ℕ) → s + k ≤ length front → take k (drop s (front ++ rest)) ≡ take k (drop s front)
part-front s k front rest m =
    ap (take k) (drop-append-le s front rest (omega arith)) ∙ take-append-le k (drop s front) rest (omega (arith, length-drop s front))

module _ (lengths costs entry : List ℕ) where
  pub record ChosenTo (t before : ℕ) (now : List ℕ) : Type 0 where
    pub walked : Walked lengths t before
    pub size : length now ≡ length entry
    pub done : (u : ℕ) → u < t → Chosen costs (part_of lengths entry u) (part_of lengths now u)
    pub rest : drop before now ≡ drop before entry

  pub chosen_none : ChosenTo 0 0 entry
  chosen_none = record { walked = walked_none lengths; size = refl; done = λ u m. absurd (omega arith); rest = refl }

  module _ (given : AllBlocked lengths (length costs) entry) {t before end : ℕ} {now : List ℕ} (m : t < length lengths) (r : ChosenTo t before now)
      (e : Ends lengths t before end) where
    -- the next train ends among the cars
    end-within : (before ≤ end) × (end ≤ length now)
    end-within = (omega (arith, e.car), omega (arith, e.within, given.all, r.size))

    -- its cars have the numbers that they came with
    here : take (end - before) (drop before now) ≡ part_of lengths entry t
    here =
        let cars : end - before ≡ get_or lengths t 0 = omega (arith, e.car) in
        ap₂ (λ (k : ℕ) (l : List ℕ). take k l) cars r.rest ∙ ap (λ (s : ℕ). take (get_or lengths t 0) (drop s entry)) r.walked.held

    blocked-here : Blocked (length costs) (take (end - before) (drop before now))
    blocked-here = subst (Blocked (length costs)) (sym here) (given.train t m)

    -- the parts of the trains before lie among the first cars
    part-before : (u : ℕ) → u < t → sum (take u lengths) + get_or lengths u 0 ≤ before
    part-before u l =
        let long = length-take-le t lengths (omega arith) in
        omega (
          arith,
          r.walked.held,
          train-end (take t lengths) u (omega (arith, long)),
          ap sum (take-take u t lengths (omega arith)),
          get_or-take t lengths u 0 l,
        )

    module _ {part : List ℕ} (chosen : Chosen costs (take (end - before) (drop before now)) part) where
      abbrev behind : List ℕ
      behind = part ++ drop (end - before) (drop before now)

      front_long : length (take before now) ≡ before
      front_long = length-take-le before now (omega (arith, end-within))

      part-long : length part ≡ end - before
      part-long =
          ap length chosen.given ∙
          (length-map (take (end - before) (drop before now)) chosen.choice ∙
          length-take-le (end - before) (drop before now) (omega (arith, end-within, length-drop before now)))

      kept : (u : ℕ) → u < t → part_of lengths now u ≡ part_of lengths (take before now ++ behind) u
      kept u l =
          let s = sum (take u lengths) in
          let k = get_or lengths u 0 in
          let m = part-before u l in
          ap (λ (v : List ℕ). take k (drop s v)) (sym (take-append-drop before now)) ∙
          (part-front s k (take before now) (drop before now) (omega (arith, front_long)) ∙
          sym (part-front s k (take before now) behind (omega (arith, front_long))))

      new : part ≡ part_of lengths (take before now ++ behind) t
      new =
          let cars : length part ≡ get_or lengths t 0 = omega (arith, part-long, e.car) in
          sym (ap (take (get_or lengths t 0)) (drop_at (take before now) behind (sum (take t lengths)) (front_long ∙ r.walked.held)) ∙
          take_at part (drop (end - before) (drop before now)) (get_or lengths t 0) cars)

      chosen-next : ChosenTo (t + 1) end (take before now ++ behind)
      chosen-next =
          record {
            walked = e.walked;
            size =
                omega (
                  arith,
                  length-append (take before now) behind,
                  length-append part (drop (end - before) (drop before now)),
                  front_long,
                  part-long,
                  length-drop (end - before) (drop before now),
                  length-drop before now,
                  r.size,
                  end-within,
                );
            done =
                λ u l.
                below_more (λ (k : ℕ). Chosen costs (part_of lengths entry k) (part_of lengths (take before now ++ behind) k)) t
                (λ k near. subst (Chosen costs (part_of lengths entry k)) (kept k near) (r.done k near))
                (subst (Chosen costs (part_of lengths entry t)) new (subst (λ (l : List ℕ). Chosen costs l part) here chosen))
                u (omega arith);
            rest = left;
          }
        where
          whole : before + (end - before) ≡ end
          whole = omega (arith, end-within)

          left : drop end (take before now ++ behind) ≡ drop end entry
          left =
              ap (λ (k : ℕ). drop k (take before now ++ behind)) (sym whole) ∙
              (sym (drop-drop (end - before) before (take before now ++ behind)) ∙
              (ap (drop (end - before)) (drop_at (take before now) behind before front_long) ∙
              (drop_at part (drop (end - before) (drop before now)) (end - before) part-long ∙
              (ap (drop (end - before)) r.rest ∙ (drop-drop (end - before) before entry ∙ ap (λ (k : ℕ). drop k entry) whole)))))

  -- a walk over the trains, one after the other
  module _ (given : AllBlocked lengths (length costs) entry) {passed : List (Range ℕ)} {cars : Range ℕ} {now : List ℕ} (stands : Stands lengths passed cars)
      (r : ChosenTo (length passed) (reached lengths passed) now) where
    held : ChosenTo (length passed) cars.start now
    held = before_it stands (λ b. ChosenTo (length passed) b now) r

    pub part-within : (cars.start ≤ cars.end) × (cars.end ≤ length now) × (length now ≤ first_limits.cars)
    part-within =
        let within = end-within given stands.more held stands.ends in
        (within.0, within.1, omega (arith, r.size, given.few))

    pub part-blocked : Blocked (length costs) (take (cars.end - cars.start) (drop cars.start now))
    part-blocked = blocked-here given stands.more held stands.ends

    pub part-chosen : {part : List ℕ} → Chosen costs (take (cars.end - cars.start) (drop cars.start now)) part
        → ChosenTo (length (passed ++ cars ∷ [])) (reached lengths (passed ++ cars ∷ []))
        (take cars.start now ++ (part ++ drop (cars.end - cars.start) (drop cars.start now)))
    part-chosen {part} chosen =
        behind_it stands cars (λ t b. ChosenTo t b (take cars.start now ++ (part ++ drop (cars.end - cars.start) (drop cars.start now))))
        (chosen-next given stands.more held stands.ends chosen)

  pub chosen-all : {t before : ℕ} {now : List ℕ} → length lengths ≤ t → ChosenTo t before now → AllChosen lengths costs entry now
  chosen-all l r u m = r.done u (omega arith)
