-- Laws of `Put`: no text; one text after another, the same text by other words, and the room behind it; a text from the
-- start. Assumes nothing.
use Prim.Native.Nat.{ℕ, ◌+◌, ◌-◌, ◌*◌, ◌^◌, ◌≤◌, ◌<◌, max}
use mathlib.Core.Path.{◌≡◌, refl, sym, ap, ap₂, ◌∙◌}
use mathlib.Core.List.{List, [], ◌++◌}
use native.Mathlib.Omega.{arith}
use lib.ListN.{length, take, drop, take-append-drop}
use lib.Seq.{drop-drop}
use borrow.Rule.Slice.Mut.{set_vals}
use borrow.Rule.Slice.PartMut.{put_mid}
use Rattle.std.specs.Fmt.{decimal as printed}
use Rattle.cells.specs.Decimal.{decimal}
use Rattle.cells.proofs.Decimals.{decimal_printed, printed_length}
use Rattle.cells.specs.declared.Page.{Page}
use Rattle.cells.specs.Pages.{Room, Put}
use Rattle.cells.specs.Writes.{Puts}
use Rattle.cells.proofs.Writing.{wrote_between, wrote_nothing, wrote_then, wrote_same}

pub put_nothing : (a : Page) → Put 0 a a []
put_nothing a =
    record { same_buffer = refl; wrote = record { wrote = wrote_nothing a.out.now a.at; short = omega arith } }

module _ {a b : Page} {m : ℕ} {s : List ℕ} (p : Put m a b s) where
  pub put_then : {c : Page} {n : ℕ} {t : List ℕ} → Put n b c t → Put (m + n) a c (s ++ t)
  put_then q =
      record {
        same_buffer = q.same_buffer ∙ p.same_buffer;
        wrote =
            record {
              wrote = wrote_then p.wrote.wrote q.wrote.wrote;
              short = omega (arith, p.wrote.short, q.wrote.short);
            };
      }

  pub put_as : {n : ℕ} {t : List ℕ} → s ≡ t → m ≤ n → Put n a b t
  put_as e h =
      record {
        same_buffer = p.same_buffer;
        wrote = record { wrote = wrote_same e p.wrote.wrote; short = omega (arith, p.wrote.short) };
      }

  pub room_behind : (n : ℕ) → Room (m + n) a → Room n b
  room_behind n h = omega (arith, p.wrote.short, p.wrote.wrote.same_length)

  pub puts_as : {bytes t : List ℕ} → a.out.now ≡ bytes → a.at ≡ 0 → s ≡ t → m ≤ 65_536 → Puts bytes b.out.now t b.at
  puts_as e z f h = rw (← e, ← z) (put_as f h).wrote

-- ---- a page whose buffer is written, and its place moved

-- by a copy into the part from the place to the end
pub put_copied : (p : Page) (s t : List ℕ) → t ≡ s → Room (length s) p
    → Put (length s) p
    record { out = set_vals (put_mid p.at (p.at + length s - p.at) p.out.now t) p.out; at = p.at + length s } s
put_copied p s t e room =
    let end : p.at + (p.at + length s - p.at) ≡ p.at + length s = omega arith in
    let behind = drop-drop (p.at + length s - p.at) p.at p.out.now ∙ ap (λ n. drop n p.out.now) end in
    let wrote = wrote_between s refl room (ap (λ l. take p.at p.out.now ++ (s ++ l)) behind) in
    record { same_buffer = refl; wrote = record { wrote = rw e wrote; short = omega arith } }

-- by digits that end at the new place, of which there are one more than the logarithm
module _ (p : Page) (n m k : ℕ) (small : n < 2 ^ 32) (some : m ≡ max n 1) (low : 10 ^ k ≤ m) (high : m < 10 * 10 ^ k)
    (room : Room (length (decimal n)) p) where
  many : length (printed n) ≡ k + 1
  many = printed_length n m k small some low high

  is : decimal n ≡ printed n
  is = decimal_printed n small

  pub digits_start : length (printed n) ≤ p.at + k + 1
  digits_start = omega (arith, many)

  pub digits_end : p.at + k + 1 ≤ length p.out.now
  digits_end = omega (arith, room, ap length is, many)

  pub put_digits : (b : List ℕ) (start : ℕ) → start + length (printed n) ≡ p.at + k + 1
      → drop start b ≡ printed n ++ drop (p.at + k + 1) p.out.now
      → take start b ≡ take start p.out.now
      → Put (length (decimal n)) p record { out = set_vals b p.out; at = p.at + k + 1 } (decimal n)
  put_digits b start e behind before =
      let here : start ≡ p.at = omega (arith, many) in
      let whole = sym (take-append-drop p.at b) ∙ ap₂ (λ x y. x ++ y) (rw here at before) (rw here at behind) in
      record {
        same_buffer = refl;
        wrote =
            record {
              wrote = wrote_same (sym is) (wrote_between (printed n) (omega (arith, many)) digits_end whole);
              short = omega (arith, ap length is, many);
            };
      }
