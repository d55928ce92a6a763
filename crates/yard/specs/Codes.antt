-- Usable codes and how many there are, the codes that a night allows, the fewest steps, and the fewest tracks of a code.
use Rattle.std.specs.Prelude.{ℕ, zero, suc, ◌+◌, ◌^◌, Bool, false, not, ◌&&◌, List, [], ◌∷◌, leb, eqb, get_or, take}
use Rattle.yard.specs.Words.{keep, up_from, first}
use Rattle.yard.specs.Night.{Plan, night_of, sum}
use Rattle.yard.specs.Replay.{first_early}

-- a lone car with a code, on W tracks and in h steps
abbrev pub lone : ℕ → ℕ → ℕ → Plan
lone W h code =
    record {
      night = night_of (1 ∷ []) (1 ∷ []) false W 1;
      steps = h;
      codes = code ∷ [];
    }

-- a code is usable on W tracks if a car with it is never pulled early there
unfoldable pub usable : ℕ → ℕ → ℕ → Bool
usable W h code = eqb (first_early (lone W h code)) h

-- the usable codes of h steps, counted upward from 0
unfoldable pub usable_codes : ℕ → ℕ → List ℕ
usable_codes W h = keep (usable W h) (up_from 0 (2 ^ h))

-- of the codes below 2^h those that a night allows, by its mark and its tracks: the usable ones, but not 0 where it is closed, since a
-- car with code 0 rolls to its destination at once
unfoldable pub allowed : Bool → ℕ → ℕ → ℕ → Bool
allowed closed W h code = usable W h code && not (closed && eqb code 0)

-- the allowed codes of h steps, counted upward, and the code number q among them, the first being number 0
unfoldable pub allowed_codes : Bool → ℕ → ℕ → List ℕ
allowed_codes closed W h = keep (allowed closed W h) (up_from 0 (2 ^ h))

unfoldable pub code_number : Bool → ℕ → ℕ → ℕ → ℕ
code_number closed W h q = get_or (allowed_codes closed W h) q 0

-- a(p), a(p - 1), .. a(0), a(-1) at p + 1: a(-1) is 1, what lies below is 0, and a(p) is the sum of the W before it
abbrev pub descending : ℕ → ℕ → List ℕ
descending W zero = 1 ∷ []
descending W (suc p) = sum (take W (descending W p)) ∷ descending W p

abbrev pub a : ℕ → ℕ → ℕ
a W p = get_or (descending W (suc p)) 0 0

-- F(0) = 1 and F(h) = F(h - 1) + a(h - 1)
abbrev pub F : ℕ → ℕ → ℕ
F W zero = 1
F W (suc h) = F W h + a W h

-- the least h with F(h) at least c + 1: it is never above c, since each step adds a code at least
unfoldable pub fewest_steps : ℕ → ℕ → ℕ
fewest_steps W c = first (λ h. leb (suc c) (F W h)) c 0

-- the fewest tracks on which a car with this code of h steps is never pulled early
unfoldable pub fewest_tracks : ℕ → ℕ → ℕ
fewest_tracks h code = first (λ W. usable W h code) h 1
