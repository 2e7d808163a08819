-- What holds of lifts, of products and of vectors.
use Rattle.std.specs.Prelude.{◌≡◌, ℕ, suc, ◌+◌, ◌≤◌, List}
use Rattle.group_modules.specs.Module.{lin}
use Rattle.group_modules.specs.Field.{Below, residue}
use Rattle.group_modules.specs.Tables.{Group, terms, block-sum}
use Rattle.group_modules.specs.Resolutions.{rank}
use Rattle.linear_algebra.specs.Rows.{IsRow}
use Rattle.radical_layers.specs.Coordinates.{Coordinates}
use Rattle.resolution_stages.specs.Definitions.{StageRows, InKernel, boundary}
use Rattle.resolution_stages.specs.Claims.{row_table}
use Rattle.chain_maps.specs.Lifts.{ahead, free, Class, lift, product}
use Rattle.chain_maps.specs.Vectors.{Vector, vector, entries}
use Rattle.chain_maps.specs.Multiply.{multiply}

module _ {n : ℕ} (q : ℕ) (Γ : Group n) (K : Coordinates q Γ) (S : StageRows) where
  -- the linear map of degree j of the lift of c, from P_(e+j) to P_j
  abbrev pub lift_map : (e : ℕ) → Class q Γ K S e → (j : ℕ) → (free q Γ K S (ahead e j)).of
      → (free q Γ K S j).of
  lift_map e c j v = lin (free q Γ K S j) (lift q Γ K S e c j) (terms q Γ (rank q Γ S.ranks (ahead e j)) v)

  pub record LiftClaims : Type 0 where
    -- the lift begins with the class
    pub begins : (e : ℕ) (c : Class q Γ K S e) (i : Below (rank q Γ S.ranks e))
        → block-sum q Γ 1 (lift q Γ K S e c 0 i) (residue 0 0) ≡ c i
    -- its value at the boundary of a basis element is in the kernel, where the section is a right inverse of
    -- the boundary
    pub in_kernel : (e : ℕ) (c : Class q Γ K S e) (j : ℕ) (i : Below (rank q Γ S.ranks (suc (ahead e j))))
        → InKernel q Γ K S j (lift_map e c j (row_table q Γ K S (ahead e j) i))
    -- and it is a chain map
    pub chain_map : (e : ℕ) (c : Class q Γ K S e) (j : ℕ) (v : (free q Γ K S (suc (ahead e j))).of)
        → boundary q Γ K S j (lift_map e c (suc j) v) ≡ lift_map e c j (boundary q Γ K S (ahead e j) v)

  -- a product has the entries of the product by lifts, and 0 from its rank on
  pub record ProductClaims (d e : ℕ) (v w : Vector q) : Type 0 where
    pub degree : ahead e d ≡ d + e
    pub each : (i : Below (rank q Γ S.ranks (ahead e d)))
        → multiply q Γ K S d e v w i.0 ≡ product q Γ K S e (λ i. w i.0) d (λ i. v i.0) i
    pub past : (k : ℕ) → rank q Γ S.ranks (d + e) ≤ k → multiply q Γ K S d e v w k ≡ residue q 0

-- rows of b entries and vectors that are 0 from b on are the same
pub record VectorClaims (q b : ℕ) : Type 0 where
  pub is_row : (v : Vector q) → IsRow (suc q) b (entries b v)
  pub of_row : (xs : List ℕ) → IsRow (suc q) b xs → entries b (vector q xs) ≡ xs
  pub of_vector : (v : Vector q) → ((k : ℕ) → b ≤ k → v k ≡ residue q 0) → vector q (entries b v) ≡ v
