-- What is read of items, row by row.
use Rattle.std.proofs.Common.{◌≡◌, ℕ, suc, ◌-◌, ◌<◌, List, [], ◌∷◌, length, refl, arith}
use Rattle.std.specs.Prelude.{Ok, Err}
use Rattle.fv_text.specs.declared.kind.Kind.{Kind}
use Rattle.fv_text.specs.declared.kind.Kind.TheVariants as k
use Rattle.fv_text.specs.declared.keyword.Keyword.TheVariants as w
use Rattle.fv_text.specs.declared.symbol.Symbol.TheVariants as s
use Rattle.vl_parse_grammar.specs.Machine as machine
use Rattle.vl_parse_grammar.specs.Machine.{pop, bad, syntax, deep, then}
use Rattle.vl_parse_grammar.specs.Grammar.{endgenerate, end, expand, read, name, in_parens}
use Rattle.vl_parse_grammar.specs.Grammar.{item, items, loop_head, generate_block}
use Rattle.vl_parse_grammar.specs.Grammar.{generate_block_label, generate_otherwise}
use Rattle.vl_parse.proofs.ItemsRows.{item_empty}
use Rattle.vl_parse_cursor.specs.Next.{IsOther}
use Rattle.vl_parse_cursor.specs.Parts.{row_read, row_deep, row_bad, same_row}

pub item_generate : (n : ℕ) (ts : List Kind) → read item n (k.Keyword w.Generate ∷ ts) ≡ read (items endgenerate) n ts
item_generate n ts = row_read item n (k.Keyword w.Generate) ts 0 _ refl (omega arith)

pub item_for : (n : ℕ) (ts : List Kind) → 0 < n
    → read item n (k.Keyword w.For ∷ ts) ≡ then (read loop_head (n - 1) ts) (λ r. read generate_block (n - 1) r)
item_for n ts l = row_read item n (k.Keyword w.For) ts 1 _ refl l

pub item_for_deep : (n : ℕ) (ts : List Kind) → n ≡ 0 → read item n (k.Keyword w.For ∷ ts) ≡ Err (deep (suc (length ts)))
item_for_deep n ts l = row_deep item n (k.Keyword w.For) ts 1 _ refl (omega (arith, l))

pub item_if : (n : ℕ) (ts : List Kind) → 0 < n
    → read item n (k.Keyword w.If ∷ ts) ≡ then (read in_parens (n - 1) ts)
    (λ r. then (read generate_block (n - 1) r) (λ q. read generate_otherwise (n - 1) q))
item_if n ts l = row_read item n (k.Keyword w.If) ts 1 _ refl l

pub item_if_deep : (n : ℕ) (ts : List Kind) → n ≡ 0 → read item n (k.Keyword w.If ∷ ts) ≡ Err (deep (suc (length ts)))
item_if_deep n ts l = row_deep item n (k.Keyword w.If) ts 1 _ refl (omega (arith, l))

pub otherwise_else : (n : ℕ) (ts : List Kind)
    → read generate_otherwise n (k.Keyword w.Else ∷ ts) ≡ read generate_block n ts
otherwise_else n ts = row_read generate_otherwise n (k.Keyword w.Else) ts 0 _ refl (omega arith)

pub otherwise_none : (n : ℕ) (ts : List Kind) → IsOther (k.Keyword w.Else) ts → read generate_otherwise n ts ≡ Ok ts
unfolding read machine.reads
otherwise_none n [] h0 = refl
otherwise_none n (k.Keyword w.Else ∷ ts) h0 = absurd (h0 refl)
otherwise_none n (t ∷ ts) h0 = refl

pub block_generate : (n : ℕ) (ts : List Kind)
    → read generate_block n (k.Keyword w.Generate ∷ ts) ≡ read (items endgenerate) n ts
block_generate n ts = row_read generate_block n (k.Keyword w.Generate) ts 0 _ refl (omega arith)

pub block_begin : (n : ℕ) (ts : List Kind) → 0 < n
    → read generate_block n (k.Keyword w.Begin ∷ ts) ≡ read generate_block_label (n - 1) ts
block_begin n ts l = row_read generate_block n (k.Keyword w.Begin) ts 1 _ refl l

pub block_begin_deep : (n : ℕ) (ts : List Kind) → n ≡ 0
    → read generate_block n (k.Keyword w.Begin ∷ ts) ≡ Err (deep (suc (length ts)))
block_begin_deep n ts l = row_deep generate_block n (k.Keyword w.Begin) ts 1 _ refl (omega (arith, l))

pub block_colon : (n : ℕ) (ts : List Kind)
    → read generate_block_label n (k.Symbol s.Colon ∷ ts) ≡ then (read name n ts) (λ r. read (items end) n r)
block_colon n ts = row_read generate_block_label n (k.Symbol s.Colon) ts 0 _ refl (omega arith)

label_on : (t : Kind) → (t ≡ k.Symbol s.Colon → ⊥) → expand generate_block_label t ≡ expand (items end) t
label_on (k.Symbol s.Colon) h = absurd (h refl)
label_on t h = refl

pub block_no_label : (n : ℕ) (ts : List Kind) → IsOther (k.Symbol s.Colon) ts
    → read generate_block_label n ts ≡ read (items end) n ts
unfolding read machine.reads
block_no_label n [] h = refl
block_no_label n (t ∷ ts) h = same_row generate_block_label (items end) n t ts (label_on t h)

block_on : (t : Kind) → (t ≡ k.Keyword w.Begin → ⊥) → (t ≡ k.Symbol s.OpenAttribute → ⊥)
    → expand generate_block t ≡ expand item t
block_on (k.Keyword w.Begin) h i = absurd (h refl)
block_on (k.Symbol s.OpenAttribute) h i = absurd (i refl)
block_on t h i = refl

pub block_single : (n : ℕ) (ts : List Kind) → IsOther (k.Keyword w.Begin) ts → IsOther (k.Symbol s.OpenAttribute) ts
    → read generate_block n ts ≡ read item n ts
unfolding read machine.reads
block_single n [] h i = refl
block_single n (t ∷ ts) h i = same_row generate_block item n t ts (block_on t h i)

pub block_attribute : (n : ℕ) (ts : List Kind)
    → read generate_block n (k.Symbol s.OpenAttribute ∷ ts) ≡ Err (syntax (suc (length ts)))
block_attribute n ts = row_bad generate_block n (k.Symbol s.OpenAttribute) ts refl

pub ruleset of_front = (item_generate)

pub ruleset of_item = (
  item_for,
  item_for_deep,
  item_if,
  item_if_deep,
  item_empty,
)

pub ruleset of_generate_otherwise = (otherwise_else, otherwise_none)

pub ruleset of_generate_block = (block_begin, block_begin_deep)

pub ruleset of_short_block = (block_generate, block_single, block_attribute)

pub ruleset of_generate_block_label = (block_colon, block_no_label)
