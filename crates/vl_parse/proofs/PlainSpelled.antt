-- What an item spells that begins with a word and has no attributes.
use Rattle.std.proofs.Common.{◌≡◌, List, [], ◌∷◌, refl, sym, subst}
use Rattle.fv_text.specs.declared.kind.Kind.TheVariants as k
use Rattle.fv_text.specs.declared.keyword.Keyword.{Keyword}
use Rattle.fv_text.specs.declared.keyword.Keyword.TheVariants as w
use Rattle.fv_text.specs.declared.symbol.Symbol.TheVariants as s
use Rattle.fv_text.specs.declared.token.Token.{Token}
use Rattle.vl_tree.specs.declared.part.Event.{Event}
use Rattle.vl_tree.specs.declared.part.Instance.{Instance}
use Rattle.vl_tree.specs.Phrase.{Phrase, Spells, BeginsAt, nothing, at, word, sign, ◌▸◌}
use Rattle.vl_tree.specs.Item.{Item, always, instance}
use Rattle.vl_tree.specs.ItemSpelling.{spell, spell_event, spell_instance}
use Rattle.vl_tree.specs.Stmt.{Stmt}
use Rattle.vl_tree.specs.StmtSpelling as stmt

pub plain_found : (x y : Item) (body : Phrase) (wanted : Keyword) (t : Token) (tokens ts rest : List Token) → x ≡ y
    → spell y ≡ nothing ▸ at t.pos (word wanted ▸ body) → tokens ≡ t ∷ ts → t.kind ≡ k.Keyword wanted
    → Spells body ts rest → Spells (spell x) tokens rest
plain_found x y body wanted t tokens ts rest made e same h i =
    subst (λ z. Spells (spell z) tokens rest) (sym made)
    (subst (λ us. Spells (spell y) us rest) (sym same)
    (subst (λ q. Spells q (t ∷ ts) rest) (sym e) (t ∷ ts, refl, (refl, (ts, (h, refl), i)))))

pub always_found : (x : Item) (event : Event) (y : Stmt) (t : Token) (tokens ts middle last rest : List Token)
    → x ≡ always [] t.pos event y
    → tokens ≡ t ∷ ts → t.kind ≡ k.Keyword w.Always → Spells (sign s.At) ts middle
    → Spells (spell_event event) middle last
    → Spells (stmt.spell y) last rest → Spells (spell x) tokens rest
always_found x event y t tokens ts middle last rest made same h i j l =
    plain_found x (always [] t.pos event y)
    (sign s.At ▸ spell_event event ▸ stmt.spell y) w.Always t tokens ts rest made refl same h
    (middle, i, (last, j, l))

pub instance_found : (x : Item) (y : Instance) (t : Token) (tokens ts rest : List Token) → x ≡ instance [] t.pos y
    → tokens ≡ t ∷ ts
    → Spells (spell_instance y) tokens rest → Spells (spell x) tokens rest
instance_found x y t tokens ts rest made same h =
    subst (λ z. Spells (spell z) tokens rest) (sym made)
    (tokens, refl, (subst (λ us. BeginsAt t.pos us) (sym same) refl, h))
