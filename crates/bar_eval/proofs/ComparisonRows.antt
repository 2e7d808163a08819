-- The comparison map by rows.
use Rattle.std.proofs.Common.{◌≡◌, ℕ, zero, suc, ◌+◌, ◌-◌, ◌*◌, ◌<◌, ◌≤◌, ◌%◌, List, [], ◌∷◌, length, take}
use Rattle.std.proofs.Common.{drop, get_or, replicate, true, false, inl, inr, arith, ap, ap₂, sym, ◌∙◌}
use Rattle.std.proofs.lemmas.List.{take_all}
use Rattle.std.proofs.Math.Nat.{mod-eq_of_lt}
use Rattle.std.specs.Prelude.{◌==◌}
use Rattle.std.specs.List.{All, Contains}
use mathlib.Core.Path.{subst}
use Rattle.group_modules.specs.Module.{times}
use Rattle.group_modules.specs.Field.{Below, residue}
use Rattle.group_modules.specs.Tables.{monoid, unit}
use Rattle.linear_algebra.specs.Kernels.{unit_row}
use Rattle.linear_algebra.specs.Rows.{add_multiple, IsRow}
use Rattle.linear_algebra.proofs.Residues.{below-path}
use Rattle.resolution_stages.specs.Definitions.{InKernel}
use Rattle.p_groups.specs.PGroups.{PGroup, largest_residue, group, order_of, prime_of}
use Rattle.group_algebra.specs.Coordinates.{free_module, layer_coordinates, row_of, table_of, AreCoefficients}
use Rattle.group_algebra.proofs.ElementRows.{element-coefficients}
use Rattle.group_algebra.proofs.ImageLemmas.{row-back, zero-row}
use Rattle.min_res.specs.Stages.{stage_rows, rank_of}
use Rattle.min_res.specs.Defined.{InK, σ}
use Rattle.min_res.proofs.StageLaws.{exact-minimal}
use Rattle.min_res.proofs.StageRows.{stage_rows_are}
use Rattle.chain_lift.proofs.EmbeddingSums.{added-row, added-table, row-of-table}
use Rattle.chain_lift.specs.Embeddings.{element_of}
use Rattle.bar_complex.specs.Boundary.{signed}
use Rattle.bar_complex.specs.Faces.{alternate, face as face_of}
use Rattle.bar_complex.specs.Tuples.{Tuple, HasIdentity}
use Rattle.bar_comparison.proofs.Stages.{comparison-claims}
use Rattle.bar_eval.specs.Comparison.{tuple_of, compared, compared_boundary, compared_row, boundary_row}
use Rattle.bar_eval.proofs.ClassMaps.{claims}
use Rattle.bar_eval.proofs.FaceSums.{up-to}

-- a list that has members
pub after-one : (xs : List ℕ) → false ≡ (length xs == 0) → length xs ≡ suc (length xs - 1)
after-one [] e = absurd (let bad : false ≡ true = e in cc)
after-one (x ∷ xs) e = omega arith

module _ (G : PGroup) where
  -- the element 1 by its coefficients
  pub unit-coefficients : (a : List ℕ) → a ≡ unit_row (order_of G) 0
      → AreCoefficients G a (unit (largest_residue G) (group G) 1 (residue 0 0))
  unit-coefficients a e = subst (λ x. AreCoefficients G x one) (sym e)
      (subst (AreCoefficients G (unit_row (order_of G) 0)) ((free_module G 1).act-one one)
      (element-coefficients G (group G).one))
    where
      one : (free_module G 1).of
      one = unit (largest_residue G) (group G) 1 (residue 0 0)

  -- a multiple of one row added to another
  pub added-is : (b c : ℕ) (x y : List ℕ) (v w : (free_module G b).of) → x ≡ row_of G b v → y ≡ row_of G b w
      → add_multiple (prime_of G) c x y
      ≡ row_of G b ((free_module G b).add v (times (free_module G b).add (free_module G b).zero c w))
  added-is b c x y v w e f =
      row-back G b (add_multiple (prime_of G) c x y) _ (added-row G b c x y w r f)
      (added-table G b c x y w r f ∙ ap (λ u. (free_module G b).add u
      (times (free_module G b).add (free_module G b).zero c w))
      (ap (table_of G b) e ∙ (layer_coordinates G b).table-row v))
    where
      r : IsRow (prime_of G) (order_of G * b) x
      r = subst (λ z. IsRow (prime_of G) (order_of G * b) z) (sym e) (row-of-table G b v)

  module _ (d : ℕ) where
    -- the value at a boundary is in the kernel
    pub boundary-in : (xs : List ℕ) → InK G d (boundary_row G d xs)
    boundary-in xs = (
      (layer_coordinates G (rank_of G d)).row-is v,
      subst (InKernel (largest_residue G) (group G) (layer_coordinates G) (stage_rows G) d)
          (sym ((layer_coordinates G (rank_of G d)).table-row v))
          (subst (InKernel (largest_residue G) (group G) (layer_coordinates G) (stage_rows G) d)
          ((comparison-claims (largest_residue G) (group G) (layer_coordinates G) (stage_rows G)
          (claims G)).chain_map d t)
          ((exact-minimal G d).image_in (compared G (suc d) t))),
    )
      where
        t : Tuple (Below (order_of G)) (suc d)
        t = tuple_of G (suc d) xs

        v : (free_module G (rank_of G d)).of
        v = compared_boundary G d t

    -- and the value at the tuple its section
    pub section-there : (xs : List ℕ) → compared_row G (suc d) xs ≡ σ G d (boundary_row G d xs)
    section-there xs = (layer_coordinates G (rank_of G (suc d))).row-table (σ G d (boundary_row G d xs))
        ((stage_rows_are G).section_is d (boundary_row G d xs) (boundary-in xs)).is_row

  -- 0 where an entry is the identity
  pub has-identity : (d : ℕ) (xs : List ℕ) → length xs ≡ d → (k : ℕ) → k < length xs → get_or xs k 0 ≡ 0
      → HasIdentity (monoid (group G)) d (tuple_of G d xs)
  has-identity zero [] e k l z = absurd (omega (arith, l))
  has-identity zero (x ∷ xs) e k l z = absurd (omega (arith, e))
  has-identity (suc d) [] e k l z = absurd (omega (arith, l))
  has-identity (suc d) (x ∷ xs) e zero l z = inl (below-path _ _ (ap (λ n. n % order_of G) z
      ∙ mod-eq_of_lt G.law.law.some))
  has-identity (suc d) (x ∷ xs) e (suc k) l z =
      inr (has-identity d xs (omega (arith, e)) k (omega (arith, l)) z)

  pub zero-there : (d : ℕ) (xs : List ℕ) → length xs ≡ d → Contains xs 0
      → compared_row G d xs ≡ replicate (order_of G * rank_of G d) 0
  zero-there d xs e (k, l, z) = ap (row_of G (rank_of G d))
      ((comparison-claims (largest_residue G) (group G) (layer_coordinates G) (stage_rows G)
      (claims G)).vanishes d (tuple_of G d xs) (has-identity d xs e k l z))
      ∙ zero-row G (rank_of G d)

  -- where the loop over the faces begins
  first-there : (d x g : ℕ) (ys out v rest : List ℕ) → length ys ≡ d → g ≡ x → rest ≡ ys
      → v ≡ compared_row G (length rest) rest
      → ((l : g < order_of G) → out ≡ row_of G (rank_of G d)
      ((free_module G (rank_of G d)).act (g, l) (table_of G (rank_of G d) v))) → x < order_of G
      → out ≡ row_of G (rank_of G d) (up-to G d (tuple_of G (suc d) (x ∷ ys)) 0)
  first-there d x g ys out v rest e f r w o l =
      let value : v ≡ compared_row G d ys =
      w ∙ ap (λ (zs : List ℕ). compared_row G (length zs) zs) r ∙ ap (λ k. compared_row G k ys) e in
      let k : g < order_of G = subst (λ n. n < order_of G) (sym f) l in
      o k ∙ ap₂ (λ (h : Below (order_of G)) (t : (free_module G (rank_of G d)).of). row_of G (rank_of G d)
      ((free_module G (rank_of G d)).act h t))
      (below-path (g, k) (element_of G x) (f ∙ sym (mod-eq_of_lt l)))
      (ap (table_of G (rank_of G d)) value
      ∙ (layer_coordinates G (rank_of G d)).table-row (compared G d (tuple_of G d ys)))

  first-of : (d r g : ℕ) (xs out v rest : List ℕ) → r ≡ rank_of G d → length xs ≡ suc d
      → All (λ x. x < order_of G) xs → g ≡ get_or xs 0 0 → rest ≡ take (length xs - 1) (drop 1 xs)
      → v ≡ compared_row G (length rest) rest
      → ((l : g < order_of G) → out ≡ row_of G r ((free_module G r).act (g, l) (table_of G r v)))
      → out ≡ row_of G (rank_of G d) (up-to G d (tuple_of G (suc d) xs) 0)
  first-of d r g [] out v rest er e h f t w o = absurd (omega (arith, e))
  first-of d r g (x ∷ ys) out v rest er e h f t w o =
      let n : length ys ≡ d = omega (arith, e) in
      first-there d x g ys out v rest n f
      (t ∙ take_all (length (x ∷ ys) - 1) ys (let z : length ys ≤ length (x ∷ ys) - 1 = omega arith in z)) w
      (subst (λ r. (l : g < order_of G) → out ≡ row_of G r ((free_module G r).act (g, l) (table_of G r v)))
      er o) (h 0 0 (omega arith))

  -- one more face
  pub next-face : (d i c : ℕ) (xs old y new face : List ℕ)
      → old ≡ row_of G (rank_of G d) (up-to G d (tuple_of G (suc d) xs) i)
      → c ≡ signed (largest_residue G) (alternate false i) → y ≡ compared_row G (length face) face
      → length face ≡ d
      → tuple_of G d face ≡ face_of (monoid (group G)) d i (tuple_of G (suc d) xs)
      → new ≡ add_multiple (prime_of G) c old y
      → new ≡ row_of G (rank_of G d) (up-to G d (tuple_of G (suc d) xs) (i + 1))
  next-face d i c xs old y new face o s v n f e =
      e ∙ added-is (rank_of G d) c old y (up-to G d (tuple_of G (suc d) xs) i)
      (compared G d (face_of (monoid (group G)) d i (tuple_of G (suc d) xs))) o
      (v ∙ ap (λ k. compared_row G k face) n
      ∙ ap (λ t. row_of G (rank_of G d) (compared G d t)) f)
      ∙ ap (λ k. row_of G (rank_of G d) ((free_module G (rank_of G d)).add
      (up-to G d (tuple_of G (suc d) xs) i)
      (times (free_module G (rank_of G d)).add (free_module G (rank_of G d)).zero k
      (compared G d (face_of (monoid (group G)) d i (tuple_of G (suc d) xs)))))) s
      ∙ ap (λ k. row_of G (rank_of G d) (up-to G d (tuple_of G (suc d) xs) k))
      (let z : suc i ≡ i + 1 = omega arith in z)

  -- the rows of one degree have one length
  pub row-length : (d e : ℕ) (x y : List ℕ) (v : (free_module G (rank_of G d)).of)
      (w : (free_module G (rank_of G e)).of) → d ≡ e → x ≡ row_of G (rank_of G d) v
      → y ≡ row_of G (rank_of G e) w → length x ≡ length y
  row-length d e x y v w f g h = ap (λ (z : List ℕ). length z) g
      ∙ (row-of-table G (rank_of G d) v).length_is ∙ ap (λ k. order_of G * rank_of G k) f
      ∙ sym (row-of-table G (rank_of G e) w).length_is ∙ ap (λ (z : List ℕ). length z) (sym h)

-- the same over an equal group
pub first-face : (A G : PGroup) → A ≡ G → (d r g : ℕ) (xs out v rest : List ℕ) → r ≡ rank_of G d
    → length xs ≡ suc d → All (λ x. x < order_of G) xs → g ≡ get_or xs 0 0
    → rest ≡ take (length xs - 1) (drop 1 xs) → v ≡ compared_row G (length rest) rest
    → ((l : g < order_of A) → out ≡ row_of A r ((free_module A r).act (g, l) (table_of A r v)))
    → out ≡ row_of G (rank_of G d) (up-to G d (tuple_of G (suc d) xs) 0)
first-face A G a d r g xs out v rest er e h f t w o = first-of G d r g xs out v rest er e h f t w
    (subst (λ H. (l : g < order_of H) → out ≡ row_of H r ((free_module H r).act (g, l) (table_of H r v))) a o)
