use Rattle.std.proofs.Common.{◌≡◌, false, true}
use Rattle.gv_grammar.specs.Tokens.{kind_of, name_of}
use Rattle.gv_grammar.specs.Commands.{ends_in_name, ends_in_call}
use Rattle.gv_commands.proofs.Heading.{call_head}
use Rattle.gv_commands.proofs.commands.is_head_of_command.Goals as goal

pub returns-then-ends_in_call : goal.returns-then-ends_in_call
returns-then-ends_in_call c =
    let p : ends_in_name c.args.head.now ≡ false = cc in
    let q : ends_in_call c.args.head.now ≡ true = cc in
    let r : c.name_of.result ≡ name_of (kind_of c.args.tokens.now.rest.now) = cc in
    call_head _ _ c.is_some.result c.name_of.result p q r c.is_some.ensures
