use Rattle.group_table.specs.Prime.{prime_value}
use Rattle.pc_text.proofs.WriterLemmas.{canonical_from, written_read}
use Rattle.pc_text.proofs.writer.write_presentation.Goals as goal

pub returns-clause-text : goal.returns-clause-text
returns-clause-text c =
    canonical_from c.args.p.now (prime_value c.prime.result) c.gens.result c.in_ok-text.text.items
    c.push_powers.new.text.items c.push_commutators.new.text.items
    c.in_ok-text.ensures c.prime.ensures.value c.gens.ensures.value c.in_ok-push_powers.ensures
    c.in_ok-push_commutators.ensures

pub returns-clause-read : goal.returns-clause-read
returns-clause-read c =
    written_read c.args.p.now c.prime.result c.gens.result c.push_commutators.new.text.items
    (canonical_from c.args.p.now (prime_value c.prime.result) c.gens.result c.in_ok-text.text.items
    c.push_powers.new.text.items c.push_commutators.new.text.items
    c.in_ok-text.ensures c.prime.ensures.value c.gens.ensures.value c.in_ok-push_powers.ensures
    c.in_ok-push_commutators.ensures)
    c.gens.ensures.valid c.prime.ensures.value c.gens.ensures.value c.gens.ensures.bound
