-- The definitions at texts.
use Rattle.std.specs.Prelude.{◌≡◌, ℕ, ◌+◌, List, [], ◌∷◌, ◌++◌, Result, Ok, Err, codes, decimal, map, refl}
use Rattle.std.specs.List.{concat}
use Rattle.std.specs.Fmt.{digits}
use Rattle.limits.specs.declared.TheConstants.{MOST_GENERATORS}
use Rattle.power_commutator.specs.Presentations.{Presentation}
use Rattle.pc_text.specs.declared.fault.Kind.{Kind}
use Rattle.pc_text.specs.declared.fault.Kind.TheVariants as kind
use Rattle.pc_text.specs.Bytes.{line_feed}
use Rattle.pc_text.specs.Faults.{Fault}
use Rattle.pc_text.specs.Texts.{read}
use Rattle.pc_text.specs.Canonical.{canonical}

-- each line with its LF
text : List (List ℕ) → List ℕ
text ls = concat (map (λ l. l ++ line_feed ∷ []) ls)

at : ℕ → ℕ → Kind → Result Presentation Fault
at line column kind = Err (record { kind = kind; line = line; column = column })

bad_header : read [] ≡ at 1 1 kind.BadHeader
unfolding at
bad_header = refl

bad_prime : read (text (codes "pgroup 1" ∷ codes "prime 4" ∷ codes "gens 1" ∷ [])) ≡ at 2 1 kind.BadPrime
unfolding at text
bad_prime = refl

bad_count : read (text (codes "pgroup 1" ∷ codes "prime 2" ∷
    (codes "gens " ++ decimal (MOST_GENERATORS + 1)) ∷ [])) ≡ at 3 1 kind.BadCount
unfolding at text digits
bad_count = refl

-- line 4 behind these
over_two : List ℕ → List ℕ
over_two line = text (codes "pgroup 1" ∷ codes "prime 2" ∷ codes "gens 2" ∷ line ∷ [])

bad_line : read (over_two []) ≡ at 4 1 kind.BadLine
unfolding at text over_two
bad_line = refl

bad_generator : read (over_two (codes "g3^2 = 1")) ≡ at 4 1 kind.BadGenerator
unfolding at text over_two
bad_generator = refl

bad_power : read (over_two (codes "g1^3 = 1")) ≡ at 4 4 kind.BadPower
unfolding at text over_two
bad_power = refl

bad_order : read (over_two (codes "[g1,g2] = 1")) ≡ at 4 1 kind.BadOrder
unfolding at text over_two
bad_order = refl

bad_word : read (text (codes "pgroup 1" ∷ codes "prime 2" ∷ codes "gens 3" ∷ codes "g1^2 = g3*g2" ∷ []))
    ≡ at 4 11 kind.BadWord
unfolding at text
bad_word = refl

repeated : read (text (codes "pgroup 1" ∷ codes "prime 2" ∷ codes "gens 2" ∷ codes "g1^2 = g2" ∷ codes
    "g1^2 = g2" ∷ [])) ≡ at 5 1 kind.Repeated
unfolding at text
repeated = refl

-- the quaternion group of order 8
quaternion : Presentation
quaternion = record {
  prime = 2;
  gens = 3;
  powers = (0 ∷ 0 ∷ 1 ∷ []) ∷ (0 ∷ 0 ∷ 1 ∷ []) ∷ (0 ∷ 0 ∷ 0 ∷ []) ∷ [];
  commutators = [] ∷ ((0 ∷ 0 ∷ 1 ∷ []) ∷ []) ∷ ((0 ∷ 0 ∷ 0 ∷ []) ∷ (0 ∷ 0 ∷ 0 ∷ []) ∷ []) ∷ [];
}

quaternion_text : List ℕ
quaternion_text =
    text (codes "pgroup 1" ∷ codes "prime 2" ∷ codes "gens 3"
    ∷ codes "g1^2 = g3" ∷ codes "g2^2 = g3" ∷ codes "[g2,g1] = g3" ∷ [])

quaternion_canonical : canonical quaternion ≡ quaternion_text
unfolding quaternion quaternion_text text digits
quaternion_canonical = refl

quaternion_read : read quaternion_text ≡ Ok quaternion
unfolding quaternion quaternion_text text
quaternion_read = refl
