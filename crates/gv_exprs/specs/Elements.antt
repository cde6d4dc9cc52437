-- Elements of comma lists, and what stands behind the bracket that opens a list or a map.
use Rattle.std.specs.Prelude.{ℕ, Bool, true, false, List, [], ◌∷◌, ◌++◌, Option, Some, None}
use Rattle.gv_base.specs.declared.refusal.Place.{Place}
use Rattle.gv_spelling.specs.declared.kinds.Symbol.TheVariants as symbol
use Rattle.gv_lex.specs.declared.token.Token.{Token}
use Rattle.gv_lex.specs.declared.token.TokenKind.{TokenKind}
use Rattle.gv_lex.specs.declared.token.TokenKind.TheVariants as kind
use Rattle.gv_lex.specs.declared.token.Piece.TheVariants as piece
use Rattle.gv_lex.specs.declared.token.Word.TheVariants as word
use Rattle.gv_tree.specs.declared.expr.Entry.{Entry}
use Rattle.gv_tree.specs.declared.expr.Entry.TheVariants as entry
use Rattle.gv_tree.specs.declared.expr.Expr.{Expr}
use Rattle.gv_tree.specs.declared.expr.Expr.TheVariants as expr
use Rattle.gv_tree.specs.declared.expr.Item.{Item}
use Rattle.gv_tree.specs.declared.expr.Item.TheVariants as item
use Rattle.gv_tree.specs.declared.expr.Key.{Key}
use Rattle.gv_tree.specs.declared.expr.Key.TheVariants as key
use Rattle.gv_tree.specs.declared.expr.Label.TheVariants as label
use Rattle.gv_grammar.specs.Tokens.{Eats, place_of, ident}
use Rattle.gv_grammar.specs.Exprs.{IsExpr, IsUnary, IsKey, IsItem, IsEntry, AreElements, AreEntries}
use Rattle.gv_exprs.specs.declared.elements.Element.{Element}
use Rattle.gv_exprs.specs.declared.elements.Element.TheVariants as element
use Rattle.gv_exprs.specs.declared.elements.ItemOrEntry.{ItemOrEntry}
use Rattle.gv_exprs.specs.declared.elements.ItemOrEntry.TheVariants as sort

-- what ends an element: a comma, or a bracket that closes the list
abbrev pub ends_element : TokenKind → Bool
ends_element (kind.Symbol symbol.Comma) = true
ends_element (kind.Symbol symbol.RightParen) = true
ends_element (kind.Symbol symbol.RightBracket) = true
ends_element other = false

-- a key of one token
abbrev pub key_of : Place → TokenKind → Option Key
key_of place (kind.Word (word.Refused r) n) = None
key_of place (kind.Word w n) = Some (key.Label (label.Name (ident place n)))
key_of place (kind.Text piece.Whole n) = Some (key.Label (label.Text (ident place n)))
key_of place (kind.Int z) = Some (key.Int place z)
key_of place (kind.Long z) = Some (key.Long place z)
key_of place other = None

-- the item of a list or the entry of a map that an element is
abbrev pub sorted : Element → ItemOrEntry
sorted (element.Plain x) = sort.Item (item.Plain x)
sorted (element.Spread place x) = sort.Item (item.Spread place x)
sorted (element.Keyed k x) = sort.Entry (entry.Keyed k x)
sorted (element.Computed place x y) = sort.Entry (entry.Computed place x y)
sorted (element.SpreadMap place x) = sort.Entry (entry.Spread place x)

module _ (all : ℕ) where
  -- an argument, an item of a list, or an entry of a map
  pub data IsElement : Element → List Token → List Token → Type 0 where
    plain_element : {x : Expr} {ts rest : List Token} → IsExpr all x ts rest → IsElement (element.Plain x) ts rest
    keyed_element : {k : Key} {x : Expr} {ts us vs rest : List Token} → IsKey all k ts us → Eats symbol.Colon us vs → IsExpr all x vs rest → IsElement (element.Keyed k x) ts rest
    computed_element : {x y : Expr} {ts us vs ws xs rest : List Token} → Eats symbol.LeftParen ts us → IsExpr all x us vs → Eats symbol.RightParen vs ws → Eats symbol.Colon ws xs → IsExpr all y xs rest
        → IsElement (element.Computed (place_of ts) x y) ts rest
    spread_element : {x : Expr} {ts us rest : List Token} → Eats symbol.Star ts us → IsUnary all x us rest → IsElement (element.Spread (place_of ts) x) ts rest
    spread_map_element : {x : Expr} {ts us rest : List Token} → Eats symbol.SpreadColon ts us → IsUnary all x us rest → IsElement (element.SpreadMap (place_of ts) x) ts rest

  -- these items of a list go on to all of it
  pub data FollowsItem : List Item → List Item → List Token → List Token → Type 0 where
    items_end : {items : List Item} {ts rest : List Token} → Eats symbol.RightBracket ts rest → FollowsItem items items ts rest
    items_end_comma : {items : List Item} {ts us rest : List Token} → Eats symbol.Comma ts us → Eats symbol.RightBracket us rest → FollowsItem items items ts rest
    then_item : {i : Item} {items found : List Item} {ts us vs rest : List Token} → Eats symbol.Comma ts us → IsItem all i us vs → FollowsItem (items ++ i ∷ []) found vs rest → FollowsItem items found ts rest

  -- these entries of a map go on to all of it
  pub data FollowsEntry : List Entry → List Entry → List Token → List Token → Type 0 where
    entries_end : {entries : List Entry} {ts rest : List Token} → Eats symbol.RightBracket ts rest → FollowsEntry entries entries ts rest
    entries_end_comma : {entries : List Entry} {ts us rest : List Token} → Eats symbol.Comma ts us → Eats symbol.RightBracket us rest → FollowsEntry entries entries ts rest
    then_entry : {n : Entry} {entries found : List Entry} {ts us vs rest : List Token} → Eats symbol.Comma ts us → IsEntry all n us vs → FollowsEntry (entries ++ n ∷ []) found vs rest → FollowsEntry entries found ts rest

  -- a list or a map, behind the bracket at this place that opens it
  pub data IsListOrMap (place : Place) : Expr → List Token → List Token → Type 0 where
    a_list_of : {items : List Item} {ts rest : List Token} → AreElements all items ts rest → IsListOrMap place (expr.List place items) ts rest
    an_empty_map : {ts us rest : List Token} → Eats symbol.Colon ts us → Eats symbol.RightBracket us rest → IsListOrMap place (expr.Map place []) ts rest
    a_map_of : {entries : List Entry} {ts rest : List Token} → AreEntries all entries ts rest → IsListOrMap place (expr.Map place entries) ts rest
