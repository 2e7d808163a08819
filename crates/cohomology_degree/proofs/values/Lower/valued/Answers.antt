use Rattle.std.proofs.Common.{◌≡◌, ℕ, ◌+◌, length, ap, sym, ◌∙◌, add-one}
use Rattle.std.specs.Prelude.{All}
use mathlib.Core.Path.{subst}
use Rattle.p_groups.specs.PGroups.{PGroup, largest_residue}
use Rattle.p_groups.proofs.Fields.{residues}
use Rattle.graded_algebra.specs.Algebras.{degrees}
use Rattle.presentation_rows.specs.Values.{AreValues}
use Rattle.min_res.specs.Stages.{rank_of}
use Rattle.ring_completion.specs.Candidates.{AreSome}
use Rattle.cohomology_degree.specs.Rings.{cohomology}
use Rattle.cohomology_degree.specs.Degrees.{classes, HasStandardQuotients, IsLower}
use Rattle.cohomology_degree.proofs.Factors.{positive-degrees}
use Rattle.cohomology_degree.proofs.LeftMonomials.{left-quotients}
use Rattle.cohomology_degree.proofs.values.Lower.valued.Goals as goal

pub values-requires-clause-rank : goal.values-requires-clause-rank
values-requires-clause-rank c =
    subst (λ (g : PGroup). c.rank.result ≡ rank_of g (length c.args.self.now.degrees.now + 1))
    (sym c.requires.group) c.rank.ensures.value

pub values-requires-clause-monomials : goal.values-requires-clause-monomials
values-requires-clause-monomials c =
    subst (λ (g : PGroup). AreSome (largest_residue g) (degrees (classes g c.args.self.now.lifts.now))
    (length c.args.self.now.degrees.now + 1) c.args.monomials) (sym c.requires.group)
    (subst (λ d. AreSome (largest_residue c.args.res.now.group)
    (degrees (classes c.args.res.now.group c.args.self.now.lifts.now)) d c.args.monomials)
    (sym (add-one (length c.args.self.now.degrees.now))) c.requires.left.some)

pub values-requires-clause-quotients : goal.values-requires-clause-quotients
values-requires-clause-quotients c =
    let H : PGroup = c.args.res.now.group in
    let n : ℕ = length c.args.self.now.degrees.now in
    subst (λ (g : PGroup). All (HasStandardQuotients g c.args.self.now.lifts.now) c.args.monomials)
    (sym c.requires.group)
    (left-quotients H n c.args.self.now.lifts.now c.args.self.now.relations.now
    (positive-degrees H n c.args.self.now.lifts.now
    (subst (λ (g : PGroup). IsLower g c.args.self.now.lifts.now c.args.self.now.degrees.now)
    c.requires.group c.requires.lower).lifts_are)
    c.requires.relations c.args.monomials c.requires.left)

pub returns-clause-left : goal.returns-clause-left
returns-clause-left c =
    let H : PGroup = c.args.res.now.group in
    let n : ℕ = length c.args.self.now.degrees.now in
    record {
      valued = record {
        prime = c.in_ok-values.ensures.prime ∙ ap (λ (g : PGroup). g.table.p) c.requires.group
            ∙ sym (residues H);
        width = c.in_ok-values.ensures.width ∙ c.rank.ensures.value ∙ ap (rank_of H) (add-one n);
        some = c.requires.left.some;
        values = subst (λ (g : PGroup). AreValues (largest_residue g) (cohomology g)
            (classes g c.args.self.now.lifts.now) c.args.monomials c.in_ok-values.values.rows)
            c.requires.group c.in_ok-values.ensures.values;
      };
      left = c.requires.left;
    }
