-- Each name stays where it is when others are put behind.
use Rattle.std.proofs.Common.{◌≡◌, ◌∙◌, refl, ap, ℕ, Bool, true, false, List, [], ◌∷◌, ◌++◌, if◌then◌else◌, Some, bytes_eq, codes, arith}
use Rattle.std.specs.List.{list_any}
use Rattle.std.proofs.lemmas.Bool.Decides.{nat_tests}
use Rattle.std.proofs.lemmas.List.{length-append}
use Rattle.std.proofs.lemmas.List.Folds.{position_or_len_push}
use Rattle.gv_base.specs.Names.{name_of, with_name}
use Rattle.gv_tops.specs.Known.{AreKnown, texts, with_names}
use Rattle.gv_tops.specs.declared.known.Known.{Known}

pushed : (names : List (List ℕ)) (other text : List ℕ) (name : ℕ) → name_of names text ≡ Some name → name_of (names ++ other ∷ []) text ≡ Some name
pushed names other text name e =
    let last = position_or_len_push (bytes_eq text) names other in
    let more = length-append names (other ∷ []) in
    grind (arith, nat_tests)

stays : (names : List (List ℕ)) (other text : List ℕ) (name : ℕ) → name_of names text ≡ Some name → name_of (with_name names other) text ≡ Some name
stays names other text name e = by (list_any (bytes_eq other) names)
  where
    by : (b : Bool) → name_of (if b then names else names ++ other ∷ []) text ≡ Some name
    by true = e
    by false = pushed names other text name e

-- with more put behind, one by one
all_stay : (names : List (List ℕ)) (more : List (List ℕ)) (text : List ℕ) (name : ℕ) → name_of names text ≡ Some name → name_of (with_names names more) text ≡ Some name
all_stay names [] text name e = e
all_stay names (other ∷ more) text name e = all_stay (with_name names other) more text name (stays names other text name e)

-- a table that is what more makes of another one has the other one's names
later : (old : List (List ℕ)) {new : List (List ℕ)} (more : List (List ℕ)) (text : List ℕ) {name : ℕ} → new ≡ with_names old more → name_of old text ≡ Some name → name_of new text ≡ Some name
later old more text {name = name} e h = rw e (all_stay old more text name h)

-- what is put into a table, and then more into that
behind : (old : List (List ℕ)) {new last : List (List ℕ)} (text : List ℕ) (more : List (List ℕ)) → new ≡ with_name old text → last ≡ with_names new more → last ≡ with_names old (text ∷ more)
behind old text more e h = h ∙ ap (λ (t : List (List ℕ)). with_names t more) e

-- the texts behind each
abbrev after_set_property : List (List ℕ)
after_set_property = []

abbrev after_get_property : List (List ℕ)
after_get_property = codes "setProperty" ∷ after_set_property

abbrev after_lazy : List (List ℕ)
after_lazy = codes "getProperty" ∷ after_get_property

abbrev after_singleton : List (List ℕ)
after_singleton = codes "Lazy" ∷ after_lazy

abbrev after_delegate : List (List ℕ)
after_delegate = codes "Singleton" ∷ after_singleton

abbrev after_field : List (List ℕ)
after_field = codes "Delegate" ∷ after_delegate

abbrev after_tuple_constructor : List (List ℕ)
after_tuple_constructor = codes "Field" ∷ after_field

abbrev after_equals_and_hash_code : List (List ℕ)
after_equals_and_hash_code = codes "TupleConstructor" ∷ after_tuple_constructor

abbrev after_to_string : List (List ℕ)
after_to_string = codes "EqualsAndHashCode" ∷ after_equals_and_hash_code

abbrev after_lang : List (List ℕ)
after_lang = codes "ToString" ∷ after_to_string

abbrev after_transform : List (List ℕ)
after_transform = codes "lang" ∷ after_lang

abbrev after_groovy : List (List ℕ)
after_groovy = codes "transform" ∷ after_transform

-- names that were put into a table in turn
pub all_known : (k : Known) (t0 : List (List ℕ)) {t1 t2 t3 t4 t5 t6 t7 t8 t9 t10 t11 t12 : List (List ℕ)}
    → t1 ≡ with_name t0 (codes "groovy")
    → t2 ≡ with_name t1 (codes "transform")
    → t3 ≡ with_name t2 (codes "lang")
    → t4 ≡ with_name t3 (codes "ToString")
    → t5 ≡ with_name t4 (codes "EqualsAndHashCode")
    → t6 ≡ with_name t5 (codes "TupleConstructor")
    → t7 ≡ with_name t6 (codes "Field")
    → t8 ≡ with_name t7 (codes "Delegate")
    → t9 ≡ with_name t8 (codes "Singleton")
    → t10 ≡ with_name t9 (codes "Lazy")
    → t11 ≡ with_name t10 (codes "getProperty")
    → t12 ≡ with_name t11 (codes "setProperty")
    → name_of t1 (codes "groovy") ≡ Some k.groovy
    → name_of t2 (codes "transform") ≡ Some k.transform
    → name_of t3 (codes "lang") ≡ Some k.lang
    → name_of t4 (codes "ToString") ≡ Some k.to_string
    → name_of t5 (codes "EqualsAndHashCode") ≡ Some k.equals_and_hash_code
    → name_of t6 (codes "TupleConstructor") ≡ Some k.tuple_constructor
    → name_of t7 (codes "Field") ≡ Some k.field
    → name_of t8 (codes "Delegate") ≡ Some k.delegate
    → name_of t9 (codes "Singleton") ≡ Some k.singleton
    → name_of t10 (codes "Lazy") ≡ Some k.lazy
    → name_of t11 (codes "getProperty") ≡ Some k.get_property
    → name_of t12 (codes "setProperty") ≡ Some k.set_property
    → (t12 ≡ with_names t0 texts) × AreKnown t12 k
all_known k t0 {t1 = t1} {t2 = t2} {t3 = t3} {t4 = t4} {t5 = t5} {t6 = t6} {t7 = t7} {t8 = t8} {t9 = t9} {t10 = t10} {t11 = t11} {t12 = t12} e1 e2 e3 e4 e5 e6 e7 e8 e9 e10 e11 e12 groovy transform lang to_string equals_and_hash_code tuple_constructor field delegate singleton lazy get_property set_property =
    let h11 : t12 ≡ with_names t11 after_get_property = behind t11 (codes "setProperty") after_set_property e12 refl in
    let h10 : t12 ≡ with_names t10 after_lazy = behind t10 (codes "getProperty") after_get_property e11 h11 in
    let h9 : t12 ≡ with_names t9 after_singleton = behind t9 (codes "Lazy") after_lazy e10 h10 in
    let h8 : t12 ≡ with_names t8 after_delegate = behind t8 (codes "Singleton") after_singleton e9 h9 in
    let h7 : t12 ≡ with_names t7 after_field = behind t7 (codes "Delegate") after_delegate e8 h8 in
    let h6 : t12 ≡ with_names t6 after_tuple_constructor = behind t6 (codes "Field") after_field e7 h7 in
    let h5 : t12 ≡ with_names t5 after_equals_and_hash_code = behind t5 (codes "TupleConstructor") after_tuple_constructor e6 h6 in
    let h4 : t12 ≡ with_names t4 after_to_string = behind t4 (codes "EqualsAndHashCode") after_equals_and_hash_code e5 h5 in
    let h3 : t12 ≡ with_names t3 after_lang = behind t3 (codes "ToString") after_to_string e4 h4 in
    let h2 : t12 ≡ with_names t2 after_transform = behind t2 (codes "lang") after_lang e3 h3 in
    let h1 : t12 ≡ with_names t1 after_groovy = behind t1 (codes "transform") after_transform e2 h2 in
    let h0 : t12 ≡ with_names t0 texts = behind t0 (codes "groovy") after_groovy e1 h1 in (
      h0,
      record {
        groovy = later t1 after_groovy (codes "groovy") h1 groovy;
        transform = later t2 after_transform (codes "transform") h2 transform;
        lang = later t3 after_lang (codes "lang") h3 lang;
        to_string = later t4 after_to_string (codes "ToString") h4 to_string;
        equals_and_hash_code = later t5 after_equals_and_hash_code (codes "EqualsAndHashCode") h5 equals_and_hash_code;
        tuple_constructor = later t6 after_tuple_constructor (codes "TupleConstructor") h6 tuple_constructor;
        field = later t7 after_field (codes "Field") h7 field;
        delegate = later t8 after_delegate (codes "Delegate") h8 delegate;
        singleton = later t9 after_singleton (codes "Singleton") h9 singleton;
        lazy = later t10 after_lazy (codes "Lazy") h10 lazy;
        get_property = later t11 after_get_property (codes "getProperty") h11 get_property;
        set_property = set_property;
      },
    )
