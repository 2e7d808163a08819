use Rattle.std.proofs.Common.{◌∙◌, length, arith, ap, sym}
use Rattle.fp_rows.specs.Refs.{entries_of}
use Rattle.p_groups.specs.PGroups.{largest_residue}
use Rattle.min_res.specs.Stages.{rank_of}
use Rattle.chain_lift.specs.Embeddings.{elementary}
use Rattle.ring_present.specs.Values.{generators_of}
use Rattle.coho_report.proofs.Images.{degree_at, generator_within, image_is, no_generator, restriction_length}
use Rattle.coho_report.proofs.subgroups.image.Goals as goal

pub stage_at-requires : goal.stage_at-requires
stage_at-requires c =
    let R = c.args.ring.now in
    let same = degree_at R c.gens.result.now c.args.i c.degree-degree.result c.gens.ensures
    c.degree-degree.ensures.value c.requires.generator no_generator in
    let within = generator_within c.args.map.now.group R.degree R c.requires.ring c.args.i no_generator
    c.requires.generator in
    let last = c.requires.own.last_is in
    omega (arith, same, within.1, last)

pub restrict-requires-clause-degree : goal.restrict-requires-clause-degree
restrict-requires-clause-degree c =
    let R = c.args.ring.now in
    let same = degree_at R c.gens.result.now c.args.i c.degree-degree.result c.gens.ensures
    c.degree-degree.ensures.value c.requires.generator no_generator in
    let within = generator_within c.args.map.now.group R.degree R c.requires.ring c.args.i no_generator
    c.requires.generator in
    omega (arith, same, within.1, c.requires.height)

pub restrict-requires-clause-length : goal.restrict-requires-clause-length
restrict-requires-clause-length c =
    let R = c.args.ring.now in
    let G = c.args.map.now.group in
    let same = degree_at R c.gens.result.now c.args.i c.degree-degree.result c.gens.ensures
    c.degree-degree.ensures.value c.requires.generator no_generator in
    c.class_of.ensures.length G c.requires.ring.group_is no_generator ∙ ap (rank_of G) (sym same)

pub normal_form-requires-clause-to : goal.normal_form-requires-clause-to
normal_form-requires-clause-to c =
    let R = c.args.ring.now in
    let same = degree_at R c.gens.result.now c.args.i c.degree-degree.result c.gens.ensures
    c.degree-degree.ensures.value c.requires.generator no_generator in
    let within = generator_within c.args.map.now.group R.degree R c.requires.ring c.args.i no_generator
    c.requires.generator in
    let known = c.requires.own.ring_is.degree_is in
    omega (arith, same, within.1, known)

pub normal_form-requires-clause-length : goal.normal_form-requires-clause-length
normal_form-requires-clause-length c = λ H also.
    let G = c.args.map.now.group in
    restriction_length G H c.args.map.now.basis c.args.own.now.ring.group c.degree-degree.result
    (entries_of c.class_of.result) (entries_of c.view.result) c.requires.own.ring_is.group_is also
    (c.view.ensures.entries ∙ c.restrict.ensures.value)

pub returns : goal.returns
returns c = λ g.
    let G = c.args.map.now.group in
    let R = c.args.ring.now in
    let same = degree_at R c.gens.result.now c.args.i c.degree-degree.result c.gens.ensures
    c.degree-degree.ensures.value c.requires.generator in
    image_is G c.args.map.now.basis (generators_of (largest_residue G) c.args.own.now.ring.generators) R
    c.args.i g c.degree-degree.result (entries_of c.class_of.result) (entries_of c.view.result)
    c.in_ok-form.form c.requires.generator same c.class_of.ensures.entries
    (c.view.ensures.entries ∙ c.restrict.ensures.value) c.in_ok-form.ensures.degree
    (c.in_ok-form.ensures.form (elementary G (length c.args.map.now.basis)) c.requires.own.ring_is.group_is)
