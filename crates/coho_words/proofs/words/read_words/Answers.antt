use Rattle.std.proofs.Common.{◌≡◌, ◌∙◌, drop, sym, ap, subst, codes, string_bytes, rules, None, Some}
use Rattle.std.specs.Result.{IfErr, IfOk}
use Rattle.coho_words.specs.Faults.{IsWordsFault}
use Rattle.std.specs.Str.{bytes_eq}
use Rattle.coho_words.specs.Words.{asked, command, plain_command, texts}
use Rattle.coho_words.proofs.GivenWords.{named, no_ring, not_ring}
use Rattle.coho_words.proofs.words.read_words.Goals.{in_default-via-then-words-lt1}
use Rattle.coho_words.proofs.words.read_words.Goals.{in_default-via-in-len1-up+else-eq}
use Rattle.coho_words.proofs.words.read_words.Goals as goal

pub returns-in_default-clause-command : goal.returns-in_default-clause-command
returns-in_default-clause-command c =
    let given = c.args.words.now in
    let words = texts given in
    let same : command words ≡ plain_command words = elim c.in_default.branch [
      | in_default-via-then-words-lt1 w ↦ no_ring given (search rules)
      | in_default-via-in-len1-up+else-eq w ↦
          not_ring words (drop 1 words) (string_bytes w.name-item.result)
          (named given w.name-item.result w.in-len1-up.len_at_least w.name-item.is)
          (ap (λ t. bytes_eq t (codes "ring")) (sym w.as_str.ensures.value) ∙ sym w.eq.ensures
          ∙ w.if-eq.false)
    ] in
    subst (λ o. IfOk c.plain_command.result (λ found. o ≡ Some (asked found))) (sym same)
    c.plain_command.ensures.command

pub returns-in_default-clause-refused : goal.returns-in_default-clause-refused
returns-in_default-clause-refused c =
    let given = c.args.words.now in
    let words = texts given in
    let same : command words ≡ plain_command words = elim c.in_default.branch [
      | in_default-via-then-words-lt1 w ↦ no_ring given (search rules)
      | in_default-via-in-len1-up+else-eq w ↦
          not_ring words (drop 1 words) (string_bytes w.name-item.result)
          (named given w.name-item.result w.in-len1-up.len_at_least w.name-item.is)
          (ap (λ t. bytes_eq t (codes "ring")) (sym w.as_str.ensures.value) ∙ sym w.eq.ensures
          ∙ w.if-eq.false)
    ] in
    subst (λ o. IfErr c.plain_command.result (IsWordsFault (o ≡ None))) (sym same)
    c.plain_command.ensures.refused
