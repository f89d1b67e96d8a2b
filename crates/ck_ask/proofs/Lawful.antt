-- What is known of each question that may be asked.
use Rattle.std.specs.Prelude.{ℕ, ◌<◌, ◌≤◌}
use Rattle.std.proofs.Common.{arith}
use Rattle.ck_ask.specs.Asked.{IsQuestion}
use Rattle.ck_ask.specs.Questions.{question_channel, question_cycle, question_first}
use Rattle.ck_ask.specs.declared.question.Question.{Question}
use Rattle.ck_ask.specs.declared.question.Question.TheVariants as question

pub channel_within : (channels : ℕ) (q : Question) → IsQuestion channels q → question_channel q < channels
channel_within channels (question.Check x) h = h.channel
channel_within channels (question.Target t) h = h.channel
channel_within channels (question.Zb z) h = h.channel

pub in_order : (channels : ℕ) (q : Question) → IsQuestion channels q → question_first q ≤ question_cycle q
in_order channels (question.Check x) h = omega (arith, h.lawful.start, h.lawful.trig)
in_order channels (question.Target t) h = omega arith
in_order channels (question.Zb z) h = omega arith

pub not_late : (channels : ℕ) (q : Question) → IsQuestion channels q → question_cycle q ≤ 100
not_late channels (question.Check x) h = h.lawful.most
not_late channels (question.Target t) h = h.most
not_late channels (question.Zb z) h = h.most
