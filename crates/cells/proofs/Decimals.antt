-- A number in decimal is what the library prints, and how many digits it has. Assumes nothing.
use Prim.Native.Nat.{ℕ, zero, suc, ◌+◌, ◌*◌, ◌/◌, ◌%◌, ◌≤◌, ◌<◌, ◌^◌, max}
use mathlib.Core.Path.{◌≡◌, ap}
use mathlib.Core.List.{List, [], ◌∷◌, ◌++◌}
use native.Mathlib.Omega.{arith}
use lib.ListN.{length, length-append}
use borrow.Author.Tests.{lt-ltb, le-ltb}
use Rattle.std.specs.Fmt.{decimal as printed}
use Rattle.std.proofs.lemmas.Fmt.{AppendsLastDigit, decimal_by_steps, decimal_from_appends}
use Rattle.std.proofs.lemmas.Fmt.{decimal_nonempty, length-decimal-le}
use Rattle.cells.specs.Decimal.{digits, decimal}

last_digits : AppendsLastDigit digits
unfolding digits
last_digits = record { one = λ k n l. simp (lt-ltb n 10 l); more = λ k n l. simp (le-ltb n 10 l) }

-- of a 32-bit number
module _ (n : ℕ) (h : n < 2 ^ 32) where
  printed_few : length (printed n) ≤ 10
  printed_few = length-decimal-le 10 n (omega arith) (omega arith) (omega arith)

  pub decimal_printed : decimal n ≡ printed n
  decimal_printed = decimal_from_appends digits last_digits 10 n (omega arith) printed_few

  pub decimal_few : length (decimal n) ≤ 10
  decimal_few = omega (arith, ap length decimal_printed, printed_few)

ten_some : (k : ℕ) → 0 < 10 ^ k
ten_some zero = omega arith
ten_some (suc k) = omega (arith, ten_some k)

printed_longer : (n : ℕ) → n < 2 ^ 64 → (k : ℕ) → 10 ^ k ≤ n → k < length (printed n)
printed_longer = decimal_by_steps (λ n ds. (k : ℕ) → 10 ^ k ≤ n → k < length ds) one more
  where
    one : (n : ℕ) → n < 10 → (k : ℕ) → 10 ^ k ≤ n → k < 1
    one n l zero h = omega arith
    one n l (suc k) h = absurd (omega (arith, ten_some k))

    more : (n : ℕ) (ds : List ℕ) → 10 ≤ n → ((k : ℕ) → 10 ^ k ≤ n / 10 → k < length ds)
        → (k : ℕ) → 10 ^ k ≤ n → k < length (ds ++ ((48 + n % 10) ∷ []))
    more n ds l h zero g = omega (arith, length-append ds ((48 + n % 10) ∷ []))
    more n ds l h (suc k) g = omega (arith, h k (omega arith), length-append ds ((48 + n % 10) ∷ []))

-- k is the logarithm of n, or of 1
pub printed_length : (n m k : ℕ) → n < 2 ^ 32 → m ≡ max n 1 → 10 ^ k ≤ m → m < 10 * 10 ^ k
    → length (printed n) ≡ k + 1
printed_length n m k h e below above =
    omega (arith, length-decimal-le (suc k) n (omega arith) (omega (arith, e)) (omega arith), longer k below)
  where
    longer : (j : ℕ) → 10 ^ j ≤ m → j < length (printed n)
    longer zero b = decimal_nonempty n (omega arith)
    longer (suc j) b = printed_longer n (omega arith) (suc j) (omega (arith, e, ten_some j))
