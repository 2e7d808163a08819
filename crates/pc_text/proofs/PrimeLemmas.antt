-- The primes of a text are those of the type.
use Rattle.std.proofs.Common.{◌≡◌, ◌≢◌, ℕ, Option, Some, None, refl, sym, arith}
use Rattle.std.specs.Prelude.{option_map, IfSome, IsNone}
use Rattle.std.proofs.lemmas.Bool.Decides.{nat_tests}
use Rattle.group_table.specs.declared.Prime.{Prime}
use Rattle.group_table.specs.declared.Prime.TheVariants.{P2, P3, P5, P7}
use Rattle.group_table.specs.Prime.{prime_value}
use Rattle.pc_text.specs.Texts.{prime}

pub prime_is : (q : Prime) → prime (prime_value q) ≡ Some (prime_value q)
prime_is P2 = refl
prime_is P3 = refl
prime_is P5 = refl
prime_is P7 = refl

no_prime : (v : ℕ) → 2 ≢ v → 3 ≢ v → 5 ≢ v → 7 ≢ v → prime v ≡ None
no_prime v two three five seven = grind (arith, nat_tests)

-- what `Prime::of` answers is the prime of the text
pub prime_found : (v : ℕ) (r : Option Prime) → IfSome r (λ q. prime_value q ≡ v)
    → (IsNone r → (q : Prime) → prime_value q ≢ v) → option_map prime_value r ≡ prime v
prime_found v (Some q) some none = let e : prime_value q ≡ v = some in rw (← e) (sym (prime_is q))
prime_found v None some none = sym (no_prime v (none refl P2) (none refl P3) (none refl P5) (none refl P7))
