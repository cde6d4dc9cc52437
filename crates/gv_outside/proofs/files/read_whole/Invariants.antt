use Rattle.std.proofs.Common.{length, ◌-◌, ◌+◌, ◌≡◌, ◌≤◌, take, Some, string_bytes}
use Rattle.gv_outside.specs.declared.files.TheConstants.{MOST_BYTES}
use Rattle.gv_outside.specs.Files.{Contents, content_of}
use Rattle.gv_outside.proofs.files.read_whole.Given as goal

abbrev pub invariant-pieces : goal.invariant-pieces
invariant-pieces g l =
    let state = g.F.Files.state in
    let name = string_bytes l.fn.name in
    record {
      short : length l.bytes.items ≤ MOST_BYTES + 1;
      place : (state l.files).place ≡ length l.bytes.items;
      opened : (state l.files).opened ≡ Some name;
      named : (state l.files).named ≡ Some name;
      contents : (state l.files).contents ≡ (state l.fn.files).contents;
      steady : (state l.files).faults ≡ (state l.fn.files).faults;
      within : (contents : Contents) → (state l.fn.files).contents ≡ Some contents → length l.bytes.items ≤ length (content_of contents name);
      taken : (contents : Contents) → (state l.fn.files).contents ≡ Some contents → l.bytes.items ≡ take (length l.bytes.items) (content_of contents name);
    }

abbrev pub decreases-pieces : goal.decreases-pieces
decreases-pieces g l = MOST_BYTES + 1 - length l.bytes.items
