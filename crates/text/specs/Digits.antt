-- A number in decimal, in ASCII.
use Rattle.std.specs.Prelude.{cond, List, [], ◌∷◌, ◌++◌, ℕ, zero, suc, ◌+◌, ◌/◌, ◌%◌, ltb}
use Prim.Native.Char.{code}

abbrev pub digit : ℕ → ℕ
digit n = code "0" + n

-- the digits of a number that has at most k of them, the most significant first, and no 0 in front
unfoldable pub digits : ℕ → ℕ → List ℕ
digits zero n = []
digits (suc k) n = cond (ltb n 10) (digit n ∷ []) (digits k (n / 10) ++ digit (n % 10) ∷ [])

-- a u64 has at most 20 digits
abbrev pub decimal : ℕ → List ℕ
decimal n = digits 20 n
