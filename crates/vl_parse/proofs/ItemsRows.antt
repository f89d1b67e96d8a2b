-- What is read of lists of items, row by row.
use Rattle.std.proofs.Common.{◌≡◌, ℕ, List, [], ◌∷◌, refl, sym, ap, ◌∙◌, arith}
use Rattle.std.specs.Prelude.{Ok, Err}
use Rattle.fv_text.specs.declared.kind.Kind.{Kind}
use Rattle.fv_text.specs.declared.kind.Kind.TheVariants as k
use Rattle.fv_text.specs.declared.keyword.Keyword.TheVariants as w
use Rattle.fv_text.specs.declared.symbol.Symbol.TheVariants as s
use Rattle.vl_parse_grammar.specs.Machine as machine
use Rattle.vl_parse_grammar.specs.Machine.{pop, syntax, then}
use Rattle.vl_parse_grammar.specs.Grammar.{endmodule, endgenerate, end, many, expand, read, item, items, on_item}
use Rattle.vl_parse.specs.declared.reading.Ending as block
use Rattle.vl_parse.specs.declared.reading.Ending.TheVariants as e
use Rattle.vl_parse.specs.Items.{word_of, ending_of}
use Rattle.vl_parse_cursor.specs.Next.{IsOther}
use Rattle.vl_parse_cursor.specs.Parts.{row_read, many_read}

pub items_end : (e : block.Ending) (n : ℕ) (ts : List Kind)
    → read (items (ending_of e)) n (k.Keyword (word_of e) ∷ ts) ≡ Ok ts
items_end e.Endmodule n ts = row_read (items endmodule) n (k.Keyword w.Endmodule) ts 0 _ refl (omega arith)
items_end e.Endgenerate n ts = row_read (items endgenerate) n (k.Keyword w.Endgenerate) ts 0 _ refl (omega arith)
items_end e.End n ts = row_read (items end) n (k.Keyword w.End) ts 0 _ refl (omega arith)

item_never : (t : Kind) → on_item t ≡ pop → ⊥
item_never (k.Keyword w.Wire) h = cc
item_never (k.Symbol s.OpenAttribute) h = cc
item_never t h = cc

items_on : (e : block.Ending) (t : Kind) → (t ≡ k.Keyword (word_of e) → ⊥)
    → expand (items (ending_of e)) t ≡ many (items (ending_of e)) (on_item t)
items_on e.Endmodule (k.Keyword w.Endmodule) h = absurd (h refl)
items_on e.Endgenerate (k.Keyword w.Endgenerate) h = absurd (h refl)
items_on e.End (k.Keyword w.End) h = absurd (h refl)
items_on e.Endmodule t h = refl
items_on e.Endgenerate t h = refl
items_on e.End t h = refl

items_empty : (e : block.Ending) (n : ℕ) → read (items (ending_of e)) n [] ≡ Err (syntax 0)
unfolding read machine.reads
items_empty e.Endmodule n = refl
items_empty e.Endgenerate n = refl
items_empty e.End n = refl

pub item_empty : (n : ℕ) → read item n [] ≡ Err (syntax 0)
unfolding read machine.reads
item_empty n = refl

pub items_more : (e : block.Ending) (n : ℕ) (ts : List Kind) → IsOther (k.Keyword (word_of e)) ts
    → read (items (ending_of e)) n ts ≡ then (read item n ts) (λ r. read (items (ending_of e)) n r)
items_more e n [] h = items_empty e n ∙ ap (λ a. then a (λ r. read (items (ending_of e)) n r)) (sym (item_empty n))
items_more e n (t ∷ ts) h =
    many_read (items (ending_of e)) (items (ending_of e)) item n t ts (on_item t) (items_on e t h) refl (item_never t)
