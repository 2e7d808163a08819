use Rattle.std.proofs.Common.{◌≡◌, ◌≤◌, length, rules, codes, map, string_bytes, arith}
use Rattle.std.proofs.lemmas.List.{length-map}
use Rattle.clap.specs.Lexer.{usize_max}
use Rattle.clap.specs.Walk.{rule_of}
use Rattle.clap.specs.Simple.{app_of}
use Rattle.coho_words.proofs.ParsedPlaces.{four_built, four_read, four_refused, is_repeated, repeated}
use Rattle.coho_words.proofs.ParsedWords.{positional, two_built}
use Rattle.coho_words.proofs.operands.place_matches.Goals as goal

pub returns-clause-found : goal.returns-clause-found
returns-clause-found c =
    let is_file : rule_of c.required-file.result ≡ positional (codes "file") = search rules in
    let is_degree : rule_of c.required-degree.result ≡ positional (codes "degree") = search rules in
    let is_class : rule_of c.required-class.result ≡ positional (codes "class") = search rules in
    let is_element : rule_of c.num_args-element.result ≡ repeated (codes "element") =
    is_repeated c.required.result c.num_args-element.result (codes "element") (search rules)
    c.num_args-element.ensures.0 c.num_args-element.ensures.1 in
    let built_two = two_built c.new-5.result c.disable_help_flag.result c.in_ok-arg.field-0
    c.new-5.ensures.app c.disable_help_flag.ensures c.required-file.result is_file
    (c.in_ok-arg.ensures.shape (search rules)) c.in_ok-arg-2.field-0 c.required-degree.result is_degree
    (c.in_ok-arg-2.ensures.shape (search rules)) in
    let built = four_built c.in_ok-arg-2.field-0 c.in_ok-arg-3.field-0 c.in_ok-command.command
    c.required-class.result c.num_args-element.result built_two is_class is_element
    (c.in_ok-arg-3.ensures.shape (search rules))
    (c.in_ok-command.ensures.shape (search rules)) in
    four_read (map string_bytes c.args.words.now) c.requires (app_of c.in_ok-command.command) built
    c.try_get_matches_from.result c.try_get_matches_from.ensures.kinds c.try_get_matches_from.ensures.matches

pub returns-clause-refused : goal.returns-clause-refused
returns-clause-refused c =
    let is_file : rule_of c.required-file.result ≡ positional (codes "file") = search rules in
    let is_degree : rule_of c.required-degree.result ≡ positional (codes "degree") = search rules in
    let is_class : rule_of c.required-class.result ≡ positional (codes "class") = search rules in
    let is_element : rule_of c.num_args-element.result ≡ repeated (codes "element") =
    is_repeated c.required.result c.num_args-element.result (codes "element") (search rules)
    c.num_args-element.ensures.0 c.num_args-element.ensures.1 in
    let built_two = two_built c.new-5.result c.disable_help_flag.result c.in_ok-arg.field-0
    c.new-5.ensures.app c.disable_help_flag.ensures c.required-file.result is_file
    (c.in_ok-arg.ensures.shape (search rules)) c.in_ok-arg-2.field-0 c.required-degree.result is_degree
    (c.in_ok-arg-2.ensures.shape (search rules)) in
    let built = four_built c.in_ok-arg-2.field-0 c.in_ok-arg-3.field-0 c.in_ok-command.command
    c.required-class.result c.num_args-element.result built_two is_class is_element
    (c.in_ok-arg-3.ensures.shape (search rules))
    (c.in_ok-command.ensures.shape (search rules)) in
    let few : length (map string_bytes c.args.words.now) ≤ usize_max =
    omega (arith, length-map c.args.words.now string_bytes) in
    four_refused (map string_bytes c.args.words.now) c.requires (app_of c.in_ok-command.command) built
    c.try_get_matches_from.result few c.try_get_matches_from.ensures.kinds
