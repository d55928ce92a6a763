-- The yard at a stage: the order worked out from the codes is one in which each car stands once, and gives each car the track and place of the replay.
use mathlib.Core.Path.{◌≡◌, refl, sym, ap, ap₂, ◌∙◌, subst}
use mathlib.Core.Bool.{Bool, true, false, cond}
use mathlib.Core.List.{List, [], ◌∷◌, ◌++◌, map}
use Prim.Native.Nat.{ℕ, ◌+◌, ◌-◌, ◌%◌, ◌≤◌, ◌<◌}
use native.Mathlib.Nat.{mod-lt}
use native.Mathlib.Omega.{arith}
use lib.Dec.{ltb, eqb}
use lib.ListN.{length, get_or, take, length-append}
use lib.Seq.{take_at}
use Rattle.yard.specs.Words.{count, place}
use Rattle.yard.specs.Night.{cars, train_of, item_of}
use Rattle.yard.specs.Replay.{next_step}
use Rattle.yard.specs.Demands.{Within, EachOnce}
use Rattle.yard.proofs.general.Lists.{count_head, count-tail, up_from-bounds, keep_same}
use Rattle.yard.proofs.yards.Replay.{sorted-count}
use Rattle.yard.proofs.yards.Building.{train-cars}
use Rattle.yard.proofs.yards.DerivedPlan.{by-car}
use Rattle.scan.specs.Front.{Front}
use Rattle.scan.proofs.Front.{front-item, front_fits}
use Rattle.order.specs.Order.{CarsOf, sorted_to, Keyed}
use Rattle.stage.specs.Stages.{track_by, place_by, Standable}
use Rattle.trains.proofs.Filling.{item-within}
use Rattle.order.proofs.Keys.{sorted_to-is, sorted_to-length}
use Rattle.plans.specs.Worked.{Placeable, Placed}

map_same : (f g : ℕ → ℕ) (l : List ℕ) → ((x : ℕ) → 0 < count x l → f x ≡ g x) → map f l ≡ map g l
map_same f g [] e = refl
map_same f g (x ∷ l) e = ap₂ (λ (y : ℕ) (r : List ℕ). y ∷ r) (e x (count_head x l)) (map_same f g l (λ y m. e y (count-tail y x l m)))

-- lists by car that agree on the cars
pub by-car-same : (f g : ℕ → ℕ) (n : ℕ) → ((car : ℕ) → Within 1 n car → f car ≡ g car) → map f (cars n) ≡ map g (cars n)
by-car-same f g n e = map_same f g (cars n) (λ x m. let b = up_from-bounds x 1 n m in e x (b.0, omega (arith, b.1)))

-- the order at a stage has each car as often as came in
sorted_to-once : (codes order : List ℕ) (s : ℕ) → EachOnce order → EachOnce (sorted_to codes order s)
sorted_to-once codes order s once car =
    ap (λ (l : List ℕ). count car l) (sorted_to-is codes order s) ∙
    (sorted-count (λ c. item_of codes c) order s car ∙ (once car ∙ ap (λ (n : ℕ). count car (cars n)) (sym (sorted_to-length codes order s))))

module _ (lengths inbound codes : List ℕ) (W h stage : ℕ) (on at : List ℕ) (p : Placeable lengths inbound codes W h stage on at) where
  cars-of : CarsOf (length codes) inbound
  cars-of i m = subst (λ (n : ℕ). Within 1 n (get_or inbound i 0)) (sym p.counted.each) (item-within inbound p.lists.once i m)

  pub keyed : Keyed inbound codes stage
  keyed = record { stages = omega (arith, p.upto, p.steps); cars = cars-of; few = p.counted.cars.1 }

  -- the front of an array that the order fills
  module _ {sorted : List ℕ} (is : sorted ≡ sorted_to codes inbound stage) (rest : List ℕ) where
    long : length sorted ≡ length inbound
    long = ap length is ∙ sorted_to-length codes inbound stage

    pub order-within : length inbound ≤ length (sorted ++ rest)
    order-within = omega (arith, long, length-append sorted rest)

    pub order-part : take (length inbound - 0) (sorted ++ rest) ≡ sorted_to codes inbound stage
    order-part = take_at sorted rest (length inbound - 0) (omega (arith, long)) ∙ is

  -- a car's track is a sorting track or a destination
  track-below : (car : ℕ) → Within 1 (length inbound) car → track_by lengths codes W h stage car < W + length lengths
  track-below car w = go (ltb next h)
    where
      next : ℕ
      next = next_step h (item_of codes car) stage

      go : (b : Bool) → cond b (next % W) (W + train_of lengths car - 1) < W + length lengths
      go true = omega (arith, mod-lt next p.tracks.0)
      go false =
          let r = train-cars lengths inbound p.lists car w in
          omega (arith, r.1, r.2, p.tracks.0)

  module _ (order on₁ : List ℕ) (sorts : order ≡ sorted_to codes inbound stage)
      (fills : Front (map (track_by lengths codes W h stage) (cars (length codes))) on (length codes) on₁) where
    same : length order ≡ length inbound
    same = ap length sorts ∙ sorted_to-length codes inbound stage

    order-once : EachOnce order
    order-once = subst EachOnce (sym sorts) (sorted_to-once codes inbound stage p.lists.once)

    -- the item of a car in the list of tracks is its track
    item-track : (car : ℕ) → Within 1 (length inbound) car → item_of on₁ car ≡ track_by lengths codes W h stage car
    item-track car w =
        let v : Within 1 (length codes) car = (w.0, omega (arith, w.1, p.counted.each)) in
        front-item fills (car - 1) (omega (arith, v.0, v.1)) ∙ by-car (track_by lengths codes W h stage) (length codes) car v

    pub standable : Standable order on₁ (W + length lengths) at
    standable =
        record {
          once = order-once;
          few = omega (arith, same, p.counted.cars.1);
          given = omega (arith, same, p.counted.each, front_fits fills);
          tracks = omega (arith, p.counted.trains.1, p.tracks.1);
          track = λ car w. let v : Within 1 (length inbound) car = (w.0, omega (arith, w.1, same)) in omega (arith, item-track car v, track-below car v);
          room = omega (arith, same, p.room_at);
        }

    pub placed : {at₁ : List ℕ} → Front (map (place_by order (item_of on₁)) (cars (length order))) at (length order) at₁ →
        Placed lengths inbound codes W h stage on at on₁ at₁
    placed {at₁} is =
        let track = track_by lengths codes W h stage in
        record {
          tracks = subst (λ (k : ℕ). Front (map track (cars k)) on k on₁) p.counted.each fills;
          places =
              subst (λ (l : List ℕ). Front l at (length inbound) at₁)
              (by-car-same (place_by order (item_of on₁)) (place_by order track) (length inbound) place_same ∙
              ap (λ (o : List ℕ). map (place_by o track) (cars (length inbound))) sorts)
              (subst (λ (k : ℕ). Front (map (place_by order (item_of on₁)) (cars k)) at k at₁) same is);
        }
      where
        among : (car : ℕ) → 0 < count car order → Within 1 (length inbound) car
        among car m =
            let b = up_from-bounds car 1 (length order) (subst (λ (k : ℕ). 0 < k) (order-once car) m) in
            (b.0, omega (arith, b.1, same))

        place_same : (car : ℕ) → Within 1 (length inbound) car → place_by order (item_of on₁) car ≡ place_by order (track_by lengths codes W h stage) car
        place_same car w = ap (λ (l : List ℕ). place car l)
            (keep_same _ _ order (λ c m. ap₂ (λ (a b : ℕ). eqb a b) (item-track car w) (item-track c (among c m))))
