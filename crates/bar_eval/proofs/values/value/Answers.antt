use Rattle.std.proofs.Common.{length, ◌∙◌}
use Rattle.fp_rows.specs.Refs.{entries_of}
use Rattle.group_algebra.proofs.ImageLemmas.{row-of-ref}
use Rattle.bar_eval.proofs.ClassMaps.{is_linear, are_cocycles, is_injective, each_has_one}
use Rattle.bar_eval.proofs.CocycleValues.{value-is, value-zero}
use Rattle.bar_eval.proofs.values.value.Goals as goal

pub returns-clause-value : goal.returns-clause-value
returns-clause-value c = c.pairing.ensures.value
    ∙ value-is c.args.res.now.group c.args.tuple.now (entries_of c.args.class) _ _
    (c.view.ensures.entries ∙ c.in_ok-row.ensures.value) c.requires.prime
    (row-of-ref (entries_of c.args.class) c.requires.length c.requires.prime c.args.class.below)

pub returns-clause-identity : goal.returns-clause-identity
returns-clause-identity c h = returns-clause-value c
    ∙ value-zero c.args.res.now.group c.args.tuple.now (entries_of c.args.class) h

pub returns-in_err-row-clause-linear : goal.returns-in_err-row-clause-linear
returns-in_err-row-clause-linear c = is_linear c.args.res.now.group (length c.args.tuple.now)

pub returns-in_err-row-clause-cocycles : goal.returns-in_err-row-clause-cocycles
returns-in_err-row-clause-cocycles c = are_cocycles c.args.res.now.group (length c.args.tuple.now)

pub returns-in_err-row-clause-injective : goal.returns-in_err-row-clause-injective
returns-in_err-row-clause-injective c = is_injective c.args.res.now.group (length c.args.tuple.now)

pub returns-in_err-row-clause-one_class : goal.returns-in_err-row-clause-one_class
returns-in_err-row-clause-one_class c = each_has_one c.args.res.now.group (length c.args.tuple.now)

pub returns-clause-linear : goal.returns-clause-linear
returns-clause-linear c = is_linear c.args.res.now.group (length c.args.tuple.now)

pub returns-clause-cocycles : goal.returns-clause-cocycles
returns-clause-cocycles c = are_cocycles c.args.res.now.group (length c.args.tuple.now)

pub returns-clause-injective : goal.returns-clause-injective
returns-clause-injective c = is_injective c.args.res.now.group (length c.args.tuple.now)

pub returns-clause-one_class : goal.returns-clause-one_class
returns-clause-one_class c = each_has_one c.args.res.now.group (length c.args.tuple.now)
