use Rattle.std.proofs.Common.{map, ap, ◌∙◌, refl}
use Rattle.std.proofs.lemmas.List.{map-append}
use Rattle.gc_poly.proofs.SumLemmas.{monomial-at}
use Rattle.gc_poly.proofs.Writing.{within-length, term-next}
use Rattle.gc_poly.proofs.text.write_text.Goals as goal

pub term_bytes-requires-clause-within : goal.term_bytes-requires-clause-within
term_bytes-requires-clause-within c =
    within-length c.args.gens.now.degrees c.mono.result.now
    (monomial-at c.args.gens.now c.args.f.now c.loop-i.i c.args.f.now.degree c.mono.result.now c.requires
    refl c.mono.ensures).within

pub loop-i-preserved : goal.loop-i-preserved
loop-i-preserved c =
    term-next c.args.gens.now.degrees c.args.f.now.terms c.loop-i.i c.coefficient.result c.mono.result.now _ _
    c.in_ok-term_bytes.field-0.items c.coefficient.ensures c.mono.ensures c.in_ok-term_bytes.ensures
    c.loop-i.invariant
    (ap (map (λ p. p.items)) c.in_ok-push.ensures.items ∙ map-append (λ p. p.items) c.loop-i.pieces.items _)
