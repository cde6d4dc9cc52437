use Rattle.std.proofs.Common.{◌∙◌}
use Rattle.gv_chars.proofs.Numbers.{parsed_is, long_of_text}
use Rattle.gv_chars.proofs.integers.long_of.Goals as goal

pub returns : goal.returns
returns c = c.ok.ensures.value ∙ (parsed_is c.args.text.now c.parse.result c.parse.ensures.value.0 ∙ long_of_text c.args.text.now c.utf8.text)
