use Rattle.std.proofs.Common.{◌≡◌, ◌+◌, ◌-◌, ◌^◌, ◌++◌, drop}
use Rattle.std.specs.Prelude.{min}
use Rattle.vl_text.specs.Texts.{texts_seen}
use Rattle.rvf_case.specs.Texts.{file_texts, texts_for}
use Rattle.rvf_case.proofs.asked.texts_for.Given as goal

abbrev pub invariant-loop-file : goal.invariant-loop-file
invariant-loop-file l = record {
  number : l.number ≡ min (l.file-index + 1) (2 ^ 32 - 1);
  texts : texts_seen l.texts.items ++ file_texts (l.file-index + 1) (drop l.file-index l.files)
      ≡ texts_for l.config l.files l.fn.kind;
}
