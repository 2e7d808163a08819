use Rattle.pc_text.proofs.Made.{made_start, next_relation, next_made}
use Rattle.pc_text.proofs.reader.presentation.Goals as goal

pub loop-relation-init : goal.loop-relation-init
loop-relation-init c = made_start c.args.content.now c.in_ok-made.made c.requires c.in_ok-made.ensures

pub set_word-requires : goal.set_word-requires
set_word-requires c =
    next_relation c.args.content.now c.deref-relation-items.result.now c.loop-relation.relation-index
    c.loop-relation.made c.relation-item.result c.requires c.loop-relation.invariant
    c.deref-relation-items.ensures.value c.loop-relation-test.true c.relation-item.is

pub loop-relation-preserved : goal.loop-relation-preserved
loop-relation-preserved c =
    next_made c.args.content.now c.deref-relation-items.result.now c.loop-relation.relation-index
    c.loop-relation.made c.set_word.new.made c.relation-item.result c.requires c.loop-relation.invariant
    c.deref-relation-items.ensures.value c.loop-relation-test.true c.relation-item.is
    c.in_ok-set_word.ensures
