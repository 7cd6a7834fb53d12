-- Laws of `Wrote`: a text between what stood before it and behind it, no text, one text after another, the same text by
-- other words; what it fixes. Assumes nothing.
use Prim.Native.Nat.{ℕ, ◌+◌, ◌-◌, ◌≤◌}
use mathlib.Core.Path.{◌≡◌, refl, ap, ap₂, sym, ◌∙◌}
use mathlib.Core.List.{List, [], ◌++◌, append_assoc, append-nil}
use native.Mathlib.Omega.{arith}
use lib.ListN.{length, take, drop, length-append, length-drop, take-append-drop}
use lib.Seq.{length-take-le, take_at, drop_at, drop-drop}
use Rattle.cells.specs.Writes.{Wrote, WroteUpTo}

-- ---- a text between what stood before it and what stood behind it

pub wrote_between : {a b : List ℕ} {p r : ℕ} (s : List ℕ) → r ≡ p + length s → r ≤ length a
    → b ≡ take p a ++ (s ++ drop r a) → Wrote a b p s r
wrote_between {a} {b} {p} {r} s e h is =
    record {
      same_length =
          omega (arith, ap length same, length-append (take p a ++ s) (drop r a), front, length-drop r a);
      place = e;
      text = ap (take r) same ∙ take_at (take p a ++ s) (drop r a) r front;
      rest = ap (drop r) same ∙ drop_at (take p a ++ s) (drop r a) r front;
    }
  where
    same : b ≡ (take p a ++ s) ++ drop r a
    same = is ∙ sym (append_assoc (take p a) s (drop r a))

    front : length (take p a ++ s) ≡ r
    front = omega (arith, length-append (take p a) s, length-take-le p a (omega arith))

-- ---- one text after another

pub wrote_nothing : (a : List ℕ) (p : ℕ) → Wrote a a p [] p
wrote_nothing a p = record { same_length = refl; place = omega arith; text = rw append-nil; rest = refl }

-- what stays past r stays past q
later : (a b : List ℕ) (r q : ℕ) → r ≤ q → drop r b ≡ drop r a → drop q b ≡ drop q a
later a b r q h e =
    let g : r + (q - r) ≡ q = omega arith in
    sym (drop-drop (q - r) r b ∙ ap (λ (n : ℕ). drop n b) g)
    ∙ ap (drop (q - r)) e
    ∙ (drop-drop (q - r) r a ∙ ap (λ (n : ℕ). drop n a) g)

pub wrote_then : {a b c : List ℕ} {p r q : ℕ} {s t : List ℕ} → Wrote a b p s r → Wrote b c r t q
    → Wrote a c p (s ++ t) q
wrote_then {a} {b} {c} {p} {r} {q} {s} {t} x y =
    record {
      same_length = y.same_length ∙ x.same_length;
      place = omega (arith, length-append s t, x.place, y.place);
      text = y.text ∙ rw x.text (append_assoc (take p a) s t);
      rest = y.rest ∙ later a b r q (omega (arith, y.place)) x.rest;
    }

-- ---- the same text by other words

pub wrote_same : {a b : List ℕ} {p r : ℕ} {s t : List ℕ} → s ≡ t → Wrote a b p s r → Wrote a b p t r
wrote_same e w = rw (← e) w

pub wrote_same_upto : {most : ℕ} {a b : List ℕ} {p r : ℕ} {s t : List ℕ} → s ≡ t → WroteUpTo most a b p s r
    → WroteUpTo most a b p t r
wrote_same_upto e w = rw (← e) w

-- ---- the whole buffer is fixed

pub wrote_after : {a b : List ℕ} {p r : ℕ} {s : List ℕ} → Wrote a b p s r → b ≡ (take p a ++ s) ++ drop (p + length s) a
wrote_after {a} {b} {p} {r} {s} w =
    sym (take-append-drop r b)
    ∙ ap₂ (λ (x y : List ℕ). x ++ y) w.text (w.rest ∙ ap (λ (n : ℕ). drop n a) w.place)
