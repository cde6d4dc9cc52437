use Rattle.std.proofs.Common.{◌≡◌, ◌++◌, take}
use Rattle.std.specs.Prelude.{string_bytes}
use Rattle.gv_lex.specs.Lexing.{utf8}
use Rattle.gv_lex.proofs.names.push_all.Given as goal

abbrev pub invariant-loop-c : goal.invariant-loop-c
invariant-loop-c l = string_bytes l.buffer ≡ string_bytes l.initial.buffer ++ utf8 (take l.c-index l.word)
