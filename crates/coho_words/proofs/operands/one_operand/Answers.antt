use Rattle.std.proofs.Common.{◌≡◌, ◌⊎◌, ◌∙◌, rules, codes, map, string_bytes, None, IsSome, refl, sym, subst}
use Rattle.std.proofs.lemmas.Result.{err_from_is_err_and}
use Rattle.clap.specs.Walk.{rule_of}
use Rattle.clap.specs.Values.{kind_of}
use Rattle.clap.specs.Simple.{app_of}
use Rattle.clap.specs.declared.error.kind.ErrorKind.TheVariants.{OutOfMemory}
use Rattle.coho_words.specs.Words.{one_operand}
use Rattle.coho_words.proofs.ParsedWords.{positional, one_built, one_read, one_refused}
use Rattle.coho_words.proofs.operands.one_operand.Goals as goal

pub returns-in_err-matches-clause-refused : goal.returns-in_err-matches-clause-refused
returns-in_err-matches-clause-refused c =
    let is_file : rule_of c.required-file.result ≡ positional (codes "file") = search rules in
    let built = one_built c.new-2.result c.disable_help_flag.result c.in_ok-command.command
    c.new-2.ensures.app c.disable_help_flag.ensures c.required-file.result is_file
    (c.in_ok-command.ensures.shape (search rules)) in
    let words = map string_bytes c.args.words.now in
    let p = err_from_is_err_and c.from_residual-in_err-matches.result c.from_residual-in_err-matches.ensures.1
    in
    rw p.1 (subst (λ e. (kind_of e ≡ OutOfMemory) ⊎ (one_operand words ≡ None)) (sym p.2)
    (one_refused words c.requires (app_of c.in_ok-command.command) built c.in_err-matches.field-0.0
    c.in_err-matches.ensures.kinds))

pub given-requires : goal.given-requires
given-requires c =
    let is_file : rule_of c.required-file.result ≡ positional (codes "file") = search rules in
    let built = one_built c.new-2.result c.disable_help_flag.result c.in_ok-command.command
    c.new-2.ensures.app c.disable_help_flag.ensures c.required-file.result is_file
    (c.in_ok-command.ensures.shape (search rules)) in
    let words = map string_bytes c.args.words.now in
    let read = one_read words c.requires
    (app_of c.in_ok-command.command) built c.in_ok-matches.matches c.in_ok-matches.ensures.kinds
    c.in_ok-matches.ensures.matches in
    subst IsSome (sym read.2) refl

pub returns-clause-found : goal.returns-clause-found
returns-clause-found c =
    let is_file : rule_of c.required-file.result ≡ positional (codes "file") = search rules in
    let built = one_built c.new-2.result c.disable_help_flag.result c.in_ok-command.command
    c.new-2.ensures.app c.disable_help_flag.ensures c.required-file.result is_file
    (c.in_ok-command.ensures.shape (search rules)) in
    let words = map string_bytes c.args.words.now in
    let read = one_read words c.requires
    (app_of c.in_ok-command.command) built c.in_ok-matches.matches c.in_ok-matches.ensures.kinds
    c.in_ok-matches.ensures.matches in
    read.1 ∙ sym read.2 ∙ c.given.ensures
