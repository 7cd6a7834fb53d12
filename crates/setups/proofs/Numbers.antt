-- One answer for each number of a setup's refusal. Assumes nothing.
use Rattle.std.specs.Prelude.{ℕ, zero, suc, ◌≡◌, ◌<◌, Result}
use Rattle.std.specs.Result.{result_unwrap_or}
use Rattle.std.proofs.Common.{refl, sym, arith, ◌∙◌}
use Rattle.rule.specs.View.{Determined}
use Rattle.laws.proofs.Unique.{answer_one}
use Rattle.setups.specs.Numbers.{refusal_number, setup_number}
use Rattle.setups.specs.declared.SetupRefusal.{SetupRefusal}
use Rattle.setups.specs.declared.SetupRefusal.TheVariants.{WrongPolicy, WrongCount, WrongSlice, WrongPriorities}

-- the refusal with a number
abbrev pub refusal_with : ℕ → SetupRefusal
refusal_with zero = WrongPolicy
refusal_with (suc zero) = WrongPolicy
refusal_with (suc (suc zero)) = WrongCount
refusal_with (suc (suc (suc zero))) = WrongSlice
refusal_with (suc (suc (suc (suc n)))) = WrongPriorities

refusal_again : (e : SetupRefusal) → refusal_with (refusal_number e) ≡ e
refusal_again WrongPolicy = refl
refusal_again WrongCount = refl
refusal_again WrongSlice = refl
refusal_again WrongPriorities = refl

pub refusal_some : (e : SetupRefusal) → 0 < refusal_number e
refusal_some WrongPolicy = omega arith
refusal_some WrongCount = omega arith
refusal_some WrongSlice = omega arith
refusal_some WrongPriorities = omega arith

pub setup_answer_one : {A : Type 0} (d : A) (x y : Result A SetupRefusal) → setup_number x ≡ setup_number y
    → result_unwrap_or x d ≡ result_unwrap_or y d → x ≡ y
setup_answer_one = answer_one refusal_number refusal_with refusal_again refusal_some

pub setup_number_determined : (n : ℕ) → Determined (λ (r : Result (Unit {0}) SetupRefusal). setup_number r ≡ n)
setup_number_determined n x y a b = setup_answer_one tt x y (a ∙ sym b) refl
