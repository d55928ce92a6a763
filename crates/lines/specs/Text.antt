-- Text at the front of a buffer, piece behind piece: what fits stands there, and what does not is left off.
use Rattle.std.specs.Prelude.{ℕ, ◌≤◌, ◌^◌, ◌≡◌, List, ◌++◌, map, ltb, length, take, drop}
use Prim.Native.Char.{code}
use Prim.Native.String.{String, len, char_at}
use Rattle.std.specs.Borrow.{MutBor}
use Rattle.yard.specs.Words.{up_from, first}
use Rattle.lines.specs.declared.text.Text.{Text}
use Rattle.io.specs.Digits.{last_digits}

-- a piece added behind the first bytes of a buffer: where the text ends now, and the buffer, which stays as it was behind the text
pub record Adds (piece before : List ℕ) (at r : ℕ) (after : List ℕ) : Type 0 where
  pub size : length after ≡ length before
  pub within : r ≤ length after
  pub text : take r after ≡ take (length before) (take at before ++ piece)
  pub rest : drop r after ≡ drop r before

-- where a text in its buffer ends
abbrev pub end_of : Text → ℕ
end_of text = text.end

-- a new text is empty, and the buffer is the one that is lent
pub record Starts (lent : MutBor (List ℕ)) (text : Text) : Type 0 where
  pub lender : text.buffer.ghost_name ≡ lent.ghost_name
  pub bytes : text.buffer.now ≡ lent.now
  pub empty : text.end ≡ 0

-- a piece added behind a text, in the same buffer
pub record Grows (piece : List ℕ) (old new : Text) : Type 0 where
  pub lender : new.buffer.ghost_name ≡ old.buffer.ghost_name
  pub adds : Adds piece old.buffer.now old.end new.end new.buffer.now

-- a text as bytes
abbrev pub ascii : String → List ℕ
ascii text = map (λ i. code (char_at text i)) (up_from 0 (len text))

-- a number in decimal, with no zero in front: as many digits as hold it, and one at least
abbrev pub width : ℕ → ℕ
width n = first (λ k. ltb n (10 ^ k)) 20 1

unfoldable pub numeral : ℕ → List ℕ
numeral n = last_digits 10 (width n) n

-- a number behind its label
abbrev pub labelled : String → ℕ → List ℕ
labelled label n = ascii label ++ numeral n
