use Rattle.std.proofs.Common.{◌≡◌, ◌⊎◌, rules, codes, map, string_bytes, None, IsSome, refl, sym, subst}
use Rattle.std.proofs.lemmas.Result.{err_from_is_err_and}
use Rattle.clap.specs.Walk.{rule_of}
use Rattle.clap.specs.Values.{kind_of}
use Rattle.clap.specs.Simple.{app_of}
use Rattle.clap.specs.declared.error.kind.ErrorKind.TheVariants.{OutOfMemory}
use Rattle.coho_words.specs.Words.{two_operands}
use Rattle.coho_words.proofs.ParsedWords.{positional, two_built, two_given, two_read, two_refused}
use Rattle.coho_words.proofs.operands.two_operands.Goals as goal

pub returns-in_err-matches-clause-refused : goal.returns-in_err-matches-clause-refused
returns-in_err-matches-clause-refused c =
    let is_file : rule_of c.required-file.result ≡ positional (codes "file") = search rules in
    let is_degree : rule_of c.required-degree.result ≡ positional (codes "degree") = search rules in
    let built = two_built c.new-3.result c.disable_help_flag.result c.in_ok-arg.field-0 c.new-3.ensures.app
    c.disable_help_flag.ensures c.required-file.result is_file
    (c.in_ok-arg.ensures.shape (search rules)) c.in_ok-command.command c.required-degree.result is_degree
    (c.in_ok-command.ensures.shape (search rules)) in
    let words = map string_bytes c.args.words.now in
    let p = err_from_is_err_and c.from_residual-in_err-matches.result c.from_residual-in_err-matches.ensures.1
    in
    rw p.1 (subst (λ e. (kind_of e ≡ OutOfMemory) ⊎ (two_operands words ≡ None)) (sym p.2)
    (two_refused words c.requires (app_of c.in_ok-command.command) built c.in_err-matches.field-0.0
    c.in_err-matches.ensures.kinds))

pub given-requires : goal.given-requires
given-requires c =
    let is_file : rule_of c.required-file.result ≡ positional (codes "file") = search rules in
    let is_degree : rule_of c.required-degree.result ≡ positional (codes "degree") = search rules in
    let built = two_built c.new-3.result c.disable_help_flag.result c.in_ok-arg.field-0 c.new-3.ensures.app
    c.disable_help_flag.ensures c.required-file.result is_file
    (c.in_ok-arg.ensures.shape (search rules)) c.in_ok-command.command c.required-degree.result is_degree
    (c.in_ok-command.ensures.shape (search rules)) in
    let words = map string_bytes c.args.words.now in
    let read = two_read words c.requires
    (app_of c.in_ok-command.command) built c.in_ok-matches.matches c.in_ok-matches.ensures.kinds
    c.in_ok-matches.ensures.matches in
    subst IsSome (sym read.3) refl

pub given-requires-2 : goal.given-requires-2
given-requires-2 c =
    let is_file : rule_of c.required-file.result ≡ positional (codes "file") = search rules in
    let is_degree : rule_of c.required-degree.result ≡ positional (codes "degree") = search rules in
    let built = two_built c.new-3.result c.disable_help_flag.result c.in_ok-arg.field-0 c.new-3.ensures.app
    c.disable_help_flag.ensures c.required-file.result is_file
    (c.in_ok-arg.ensures.shape (search rules)) c.in_ok-command.command c.required-degree.result is_degree
    (c.in_ok-command.ensures.shape (search rules)) in
    let words = map string_bytes c.args.words.now in
    let read = two_read words c.requires
    (app_of c.in_ok-command.command) built c.in_ok-matches.matches c.in_ok-matches.ensures.kinds
    c.in_ok-matches.ensures.matches in
    subst IsSome (sym read.4) refl

pub returns-clause-found : goal.returns-clause-found
returns-clause-found c =
    let is_file : rule_of c.required-file.result ≡ positional (codes "file") = search rules in
    let is_degree : rule_of c.required-degree.result ≡ positional (codes "degree") = search rules in
    let built = two_built c.new-3.result c.disable_help_flag.result c.in_ok-arg.field-0 c.new-3.ensures.app
    c.disable_help_flag.ensures c.required-file.result is_file
    (c.in_ok-arg.ensures.shape (search rules)) c.in_ok-command.command c.required-degree.result is_degree
    (c.in_ok-command.ensures.shape (search rules)) in
    let words = map string_bytes c.args.words.now in
    let read = two_read words c.requires
    (app_of c.in_ok-command.command) built c.in_ok-matches.matches c.in_ok-matches.ensures.kinds
    c.in_ok-matches.ensures.matches in
    two_given (two_operands words) _ _ read.0 read.1 c.given.result.now c.given-2.result.now read.2 read.3
    read.4 c.given.ensures c.given-2.ensures
