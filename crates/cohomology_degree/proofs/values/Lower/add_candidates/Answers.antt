use Rattle.std.proofs.Common.{ap, sym, ◌∙◌, suc, length, ◌++◌, ◌∷◌, [], arith}
use Rattle.std.proofs.lemmas.List.{append-nil, take_all}
use mathlib.Core.Path.{subst}
use Rattle.cohomology_degree.specs.KnownTables.{AreCandidatesOf}
use Rattle.cohomology_degree.proofs.NewCandidates.{next-before, next-candidates}
use Rattle.cohomology_degree.proofs.values.Lower.add_candidates.Goals as goal

pub loop-i-init : goal.loop-i-init
loop-i-init c =
    subst (λ ls. AreCandidatesOf c.args.self.now.group.now (suc (length c.args.self.now.degrees.now)) ls
    c.args.candidates.now) (sym (append-nil c.args.self.now.lifts.now)) c.requires.candidates

pub push-requires : goal.push-requires
push-requires c =
    rw c.in_ok-generator_monomial.ensures
    (next-before c.args.self.now.group.now (length c.args.self.now.degrees.now) c.args.self.now.lifts.now
    c.args.new.now c.loop-i.i (omega arith) c.requires.new c.requires.lower.lifts_are c.loop-i.candidates
    c.loop-i.invariant)

pub loop-i-preserved : goal.loop-i-preserved
loop-i-preserved c =
    next-candidates c.args.self.now.group.now (length c.args.self.now.degrees.now) c.args.self.now.lifts.now
    c.args.new.now c.loop-i.i (omega arith) c.requires.new c.requires.lower.lifts_are c.loop-i.candidates
    c.loop-i.invariant c.push.new.self
    (c.in_ok-push.ensures.ok ∙ ap (λ m. c.loop-i.candidates ++ m ∷ []) c.in_ok-generator_monomial.ensures)

pub returns : goal.returns
returns c =
    subst (λ xs. AreCandidatesOf c.args.self.now.group.now (suc (length c.args.self.now.degrees.now))
    (c.args.self.now.lifts.now ++ xs) c.loop-i.candidates)
    (take_all c.loop-i.i c.args.new.now (omega arith)) c.loop-i.invariant
