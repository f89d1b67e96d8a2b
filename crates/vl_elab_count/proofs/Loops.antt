-- The nodes of a loop's head, and of an `if`.
use Rattle.std.specs.Prelude.{◌≡◌, ℕ, ◌+◌, Option, Some, None}
use Rattle.std.proofs.Common.{ap, sym, ◌∙◌, subst}
use Rattle.fv_text.specs.declared.pos.Pos.{Pos}
use Rattle.vl_tree.specs.declared.part.LoopHead.{LoopHead}
use Rattle.vl_tree.specs.declared.item.Block as declared
use Rattle.vl_tree.specs.declared.item.ItemKind.TheVariants as k
use Rattle.vl_tree.specs.Attributes.{Attributes}
use Rattle.vl_tree.specs.Expr.{Expr}
use Rattle.vl_tree.specs.ItemView.{shown}
use Rattle.vl_tree.specs.Item.{Item, Block, for_loop}
use Rattle.vl_mean.specs.ConstantFaults.{capped}
use Rattle.vl_mean.specs.FlatLaw.{nodes}
use Rattle.vl_mean.specs.Walk.{Place}
use Rattle.vl_elab_spec.specs.Counts.{item_nodes}
use Rattle.vl_elab_spec.specs.Counts as counts
use Rattle.vl_elab_count.specs.Parts.{TurnsHave}
use Rattle.vl_elab_count.proofs.CountSums.{sum, one}

pub loop_nodes : (at : Place) (x : Item) (attrs : Attributes) (p : Pos) (head : LoopHead) (b : Block)
    (start turns inner r : ℕ) → x ≡ for_loop attrs p head b → TurnsHave at x turns → start ≡ capped (nodes head.start)
    → inner ≡ capped (start + turns) → r ≡ capped (inner + 1) → r ≡ capped (item_nodes at x)
loop_nodes at x attrs p head b start turns inner r e t h k made =
    let n = counts.loop_nodes head at in
    let have : turns ≡ capped n = subst (λ y. TurnsHave at y turns) e t in
    made ∙ one (nodes head.start + n) inner (k ∙ sum (nodes head.start) n start turns h have)
    ∙ ap (λ y. capped (item_nodes at y)) (sym e)

pub if_nodes : (at : Place) (x : Item) (attrs : Attributes) (p : Pos) (c : Expr) (b : declared.Block)
    (second : Option declared.Block) (r : ℕ) → x ≡ shown attrs p (k.If c b second) → r ≡ capped (nodes c + 1)
    → r ≡ capped (item_nodes at x)
if_nodes at x attrs p c b None r e made = made ∙ ap (λ y. capped (item_nodes at y)) (sym e)
if_nodes at x attrs p c b (Some second) r e made = made ∙ ap (λ y. capped (item_nodes at y)) (sym e)
