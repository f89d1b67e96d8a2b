use Rattle.std.specs.Prelude.{ℕ, ◌==◌, if◌then◌else◌, slice_index}
use Rattle.std.proofs.Common.{refl, sym, ◌∙◌, subst}
use Rattle.fv_bits.specs.Bits.{masked}
use Rattle.wn_net.specs.Net.{IsNodeOf, width_at, value_at}
use Rattle.wn_mem.specs.Words.{ShareWrite}
use Rattle.wn_mem.proofs.After.{word_here, written_word}
use Rattle.wn_mem.proofs.write.write_word.Goals as goal

pub returns-clause-value : goal.returns-clause-value
returns-clause-value c = λ g mask number s.
    let net = c.args.net.now in
    let words = c.args.words.now in
    let w = width_at net c.args.shared.written in
    let e = value_at net g c.args.acts in
    let word = slice_index words c.args.index in
    let own : IsNodeOf net w word = word_here net w words c.args.index word c.requires.words c.requires.within refl in
    let P : ℕ → Type 0 = λ v. ShareWrite net g v mask number c.args.shared.written c.args.shared.kept in
    written_word net c.word_after.new.net g w words c.args.index word c.in_ok-after.after e mask number
    c.in_ok-after.ensures.adds
    c.requires.words c.requires.within refl
    (c.in_ok-after.ensures.value g mask number (subst P (sym own.1) s)
    ∙ (λ i. if e == 1 then masked (own.1 i) mask (value_at net g word) number else value_at net g word))
