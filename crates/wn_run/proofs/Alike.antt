-- Values depend on the inputs, registers and words that a net has, and on nothing else.
use Rattle.std.specs.Prelude.{◌≡◌, refl, ℕ, ◌<◌, List, [], ◌∷◌, ◌++◌, length, slice_index}
use Rattle.std.proofs.Common.{ap, ◌∙◌, arith}
use Rattle.std.proofs.lemmas.List.{length-map}
use Rattle.wn_net.specs.declared.node.Node.{Node}
use Rattle.wn_net.specs.declared.node.Node.TheVariants as n
use Rattle.wn_net.specs.declared.parts.Reg.{Reg}
use Rattle.wn_net.specs.declared.parts.Mem.{Mem}
use Rattle.wn_net.specs.declared.parts.Input.{Input}
use Rattle.wn_net.specs.Width.{Shape, width, IsFitting, AreFitting}
use Rattle.wn_net.specs.Value.{Given, value, values, word_at, words_of}
use Rattle.wn_net.specs.Net.{shape_of}
use Rattle.wn_run.specs.Laws.{ValuesAreAlike}

-- the same by the lengths of a shape
record SameIn (s : Shape) (g h : Given) : Type 0 where
  inputs : (i : ℕ) → i < length s.inputs → slice_index g.inputs i ≡ slice_index h.inputs i
  regs : (i : ℕ) → i < length s.regs → slice_index g.state.regs i ≡ slice_index h.state.regs i
  words : (m : ℕ) → m < length s.mems → (a : ℕ) → word_at (words_of g m) a ≡ word_at (words_of h m) a

value_alike : (s : Shape) (g h : Given) (ws vs : List ℕ) (x : Node) → SameIn s g h → IsFitting s ws x
    → value g ws vs x ≡ value h ws vs x
value_alike s g h ws vs (n.Input i) same fits = same.inputs i fits
value_alike s g h ws vs (n.Reg i) same fits = same.regs i fits
value_alike s g h ws vs (n.Read m a) same fits = same.words m fits.0 (slice_index vs a)
value_alike s g h ws vs x same fits = refl

all_alike : (s : Shape) (g h : Given) (ws vs : List ℕ) (xs : List Node) → SameIn s g h → AreFitting s ws xs
    → values s g ws vs xs ≡ values s h ws vs xs
all_alike s g h ws vs [] same fits = refl
all_alike s g h ws vs (x ∷ xs) same fits =
    ap (λ v. values s g (ws ++ width s ws x ∷ []) (vs ++ v ∷ []) xs) (value_alike s g h ws vs x same fits.0)
    ∙ all_alike s g h (ws ++ width s ws x ∷ []) (vs ++ value h ws vs x ∷ []) xs same fits.1

pub values_alike : ValuesAreAlike
values_alike net g h whole same =
    all_alike (shape_of net) g h [] [] net.nodes (record {
      inputs = λ i below. same.inputs i (omega (arith, length-map net.inputs (λ (i : Input). i.width)));
      regs = λ i below. same.regs i (omega (arith, length-map net.regs (λ (r : Reg). r.width)));
      words = λ m below. same.words m (omega (arith, length-map net.mems (λ (m : Mem). m.width)));
    }) whole.nodes
