-- What a table of names keeps beside its texts, so that no accessor is searched for. No public contract speaks of it.
use Rattle.std.specs.Prelude.{◌≡◌, ℕ, Bool, true, false, not, ◌&&◌, ◌||◌, List, [], ◌∷◌, Option, None, Some, map, String, string_bytes, bytes_eq, if◌then◌else◌}
use Rattle.std.specs.Global.{Global}
use Rattle.std.specs.Char.{to_ascii_lowercase}
use Rattle.gv_base.specs.Names.{name_of, accessor_text}
use Rattle.gv_base.specs.declared.accessors.Accessors.{Accessors}
use Rattle.gv_base.specs.declared.accessors.Properties.{Properties}

-- the texts of a table's strings
abbrev pub spelled : List (String Global) → List (List ℕ)
spelled keys = map string_bytes keys

-- the accessors of a text that the table has
abbrev pub accessors_of : List (List ℕ) → List ℕ → Accessors
accessors_of names text = record {
  getter = name_of names (accessor_text false text);
  setter = name_of names (accessor_text true text);
}

-- those of each name
abbrev pub all_accessors : List (List ℕ) → List Accessors
all_accessors names = map (accessors_of names) names

-- the accessors with the name as the one that writes, or as the one that reads
abbrev pub with_accessor : Bool → ℕ → Accessors → Accessors
with_accessor true name old = record { getter = old.getter; setter = Some name }
with_accessor false name old = record { getter = Some name; setter = old.setter }

-- the text with its first character in lower case, where that is an ASCII letter
abbrev pub uncapitalized : List ℕ → List ℕ
uncapitalized [] = []
uncapitalized (byte ∷ bytes) = to_ascii_lowercase byte ∷ bytes

-- whether a text is among the properties, and they are written, or read, as is asked
abbrev pub is_property : Option Properties → Bool → List ℕ → Bool
is_property None write text = false
is_property (Some found) write text =
    (if write then found.write else not found.write) && (bytes_eq (string_bytes found.capital) text || bytes_eq (string_bytes found.small) text)

-- these are all the properties whose accessor the text is
abbrev pub AreProperties : List ℕ → Option Properties → Type 0
AreProperties text found = (write : Bool) (property : List ℕ) → bytes_eq (accessor_text write property) text ≡ is_property found write property

-- the accessors of a text, once a name came that is the accessor of these properties
abbrev pub with_new : Option Properties → ℕ → (List ℕ → Accessors) → List ℕ → Accessors
with_new found name of text = record {
  getter = if is_property found false text then Some name else (of text).getter;
  setter = if is_property found true text then Some name else (of text).setter;
}
