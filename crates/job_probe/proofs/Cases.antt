-- What a C host is handed, in cases, holds of the definitions. Assumes nothing.
use mathlib.Core.Path.{refl}
use Rattle.refusals.specs.Refusals.{first_of}
use Rattle.jobs.specs.Words.{word_of, bytes_of, number_bytes, fewest, sent_of, signed_of}
use Rattle.jobs.specs.Sending.{axes_bytes, sent_bytes, job_payloads, job_bytes}
use Rattle.jobs.specs.Reading.{first_word, further, number_from, behind, finish_from, range_from, axes_from, job_from, record_of, read_of}
use Rattle.jobs.specs.Writing.{write_refusals, write_of}
use Rattle.job_probe.specs.Answers.{given, count_given}
use Rattle.job_probe.specs.Cases.{HandsReadOut, HandsWrittenOut}

pub hands-read-out : HandsReadOut
unfolding given read_of record_of job_from axes_from range_from finish_from behind number_from further first_word signed_of
hands-read-out = ((refl, refl, refl, refl, refl, refl, refl), (refl, refl, refl, refl, refl, refl, refl))

pub hands-written-out : HandsWrittenOut
unfolding given count_given write_of write_refusals first_of job_bytes sent_bytes job_payloads axes_bytes number_bytes fewest sent_of bytes_of word_of
hands-written-out = ((refl, refl), (refl, refl))
