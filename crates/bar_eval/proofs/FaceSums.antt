-- The value at the boundary of a tuple, face by face.
use Rattle.std.proofs.Common.{◌≡◌, ℕ, zero, suc, false, ap, ap₂, sym, ◌∙◌, refl}
use mathlib.Core.Path.{fun_ext}
use Rattle.group_modules.specs.Module.{Monoid, Module, Term, times, lin}
use Rattle.group_modules.specs.Field.{Below}
use Rattle.group_modules.specs.Tables.{monoid}
use Rattle.bar_complex.specs.Boundary.{signed}
use Rattle.bar_complex.specs.Faces.{each, alternate, face}
use Rattle.bar_complex.specs.Tuples.{Tuple}
use Rattle.bar_complex.proofs.Faces.{boundary-faces}
use Rattle.p_groups.specs.PGroups.{PGroup, largest_residue, group, order_of}
use Rattle.group_algebra.specs.Coordinates.{free_module}
use Rattle.min_res.specs.Stages.{rank_of}
use Rattle.bar_eval.specs.Comparison.{compared, compared_boundary}

module _ {p : ℕ} {H : Monoid} (M : Module p H) where
  -- x + h(0) + h(1) + .. + h(n - 1)
  abbrev pub gathered : ℕ → (ℕ → M.of) → M.of → M.of
  gathered zero h x = x
  gathered (suc n) h x = M.add (gathered n h x) (h n)

  gathered-first : (n : ℕ) (h : ℕ → M.of) (x : M.of)
      → gathered (suc n) h x ≡ gathered n (λ i. h (suc i)) (M.add x (h 0))
  gathered-first zero h x = refl
  gathered-first (suc n) h x = ap (λ y. M.add y (h (suc n))) (gathered-first n h x)

  module _ {X : Type 0} (f : X → M.of) where
    abbrev at-term : Term H X → M.of
    at-term a = times M.add M.zero a.coef (M.act a.elem (f a.base))

    pub gathered-each : (n : ℕ) (u : ℕ → Term H X) (x : M.of)
        → M.add x (lin M f (each n u)) ≡ gathered n (λ i. at-term (u i)) x
    gathered-each zero u x = M.add-zero x
    gathered-each (suc n) u x = sym (M.add-assoc x (at-term (u 0)) (lin M f (each n (λ i. u (suc i)))))
        ∙ gathered-each n (λ i. u (suc i)) (M.add x (at-term (u 0)))
        ∙ sym (gathered-first n (λ i. at-term (u i)) x)

module _ (G : PGroup) (d : ℕ) (t : Tuple (Below (order_of G)) (suc d)) where
  abbrev M : Module (suc (largest_residue G)) (monoid (group G))
  M = free_module G (rank_of G d)

  -- what face i adds
  abbrev pub at-face : ℕ → M.of
  at-face i = times M.add M.zero (signed (largest_residue G) (alternate false i))
      (compared G d (face (monoid (group G)) d i t))

  -- the first term of the boundary, and faces 0 to n - 1
  abbrev pub up-to : ℕ → M.of
  up-to n = gathered M n at-face (M.act t.0 (compared G d t.1))

  pub all-faces : up-to (suc d) ≡ compared_boundary G d t
  all-faces = ap₂ (gathered M (suc d))
      (fun_ext (λ i. ap (times M.add M.zero (signed (largest_residue G) (alternate false i)))
      (sym (M.act-one (compared G d (face (monoid (group G)) d i t))))))
      (sym (M.add-zero (M.act t.0 (compared G d t.1))))
      ∙ sym (gathered-each M (compared G d) (suc d) (λ i. record {
        coef = signed (largest_residue G) (alternate false i);
        elem = (group G).one;
        base = face (monoid (group G)) d i t;
      }) (M.add (M.act t.0 (compared G d t.1)) M.zero))
      ∙ ap (lin M (compared G d)) (sym (boundary-faces (largest_residue G) (monoid (group G)) d t))
