use Rattle.std.proofs.Common.{◌<◌, length, arith, ap}
use Rattle.std.proofs.lemmas.List.{length-map}
use Rattle.p_groups.specs.PGroups.{largest_residue}
use Rattle.gc_poly.specs.Generators.{Generators}
use Rattle.ring_present.specs.Values.{GeneratorValue, generators_of}
use Rattle.coho_report.specs.Subgroups.{IsImage}
use Rattle.coho_report.proofs.Images.{vector_of}
use Rattle.coho_report.proofs.Related.{related-next}
use Rattle.coho_report.proofs.subgroups.images.Goals as goal

pub loop-i-preserved : goal.loop-i-preserved
loop-i-preserved c =
    let G = c.args.map.now.group in
    let q = largest_residue G in
    let R = c.args.ring.now in
    let own = generators_of q c.args.own.now.ring.generators in
    let gs = generators_of q R.generators in
    let count : c.loop-i.i < length gs =
    (let a = length-map R.generators (vector_of q) in
    let b = length-map R.generators (λ (h : GeneratorValue). h.degree) in
    let d = ap (λ (g : Generators). length g.degrees) c.gens.ensures in
    omega (arith, a, b, d, c.len-i-end.ensures.value, c.loop-i-test.true)) in
    related-next (IsImage G c.args.map.now.basis own) gs c.loop-i.i c.loop-i.images.items
    c.push.new.self.items c.in_ok-image.field-0 c.loop-i.invariant count c.in_ok-image.ensures
    c.in_ok-push.ensures.items
