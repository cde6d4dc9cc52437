use Rattle.gv_phases.proofs.Steps.{converted_is}
use Rattle.gv_phases.proofs.conversion.Unit+Parsed.advance.Goals as goal

pub returns : goal.returns
returns c =
    converted_is c.args.self.names c.new.new.names c.convert.new.names c.declared_classes.new.names c.args.self.scripts.items c.in_ok-scripts.scripts.items c.as_slice.result.now c.in_ok-known.known c.accessors.result c.in_ok-classes.classes
    c.in_ok-known.ensures.known c.in_ok-known.ensures.names c.accessors.ensures c.in_ok-scripts.ensures.scripts c.in_ok-scripts.ensures.names c.as_slice.ensures.value c.in_ok-classes.ensures.classes c.in_ok-classes.ensures.names
