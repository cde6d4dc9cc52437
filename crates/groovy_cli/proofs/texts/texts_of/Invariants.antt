use Rattle.std.proofs.Common.{◌≡◌, [], drop}
use Rattle.groovy_cli.specs.Program.{texts_behind}
use Rattle.groovy_cli.proofs.texts.texts_of.Given as goal

abbrev pub invariant-loop-token : goal.invariant-loop-token
invariant-loop-token l = texts_behind l.texts.keys (drop l.token-index l.tokens) ≡ texts_behind [] l.tokens
