-- The tables of cases hold, by computing. Assumes nothing.
use mathlib.Core.Path.{refl}
use Rattle.refusals.specs.Refusals.{first_of}
use Rattle.jobs.specs.Words.{word_of, bytes_of, number_bytes, fewest, sent_of, signed_of}
use Rattle.jobs.specs.Sending.{axes_bytes, sent_bytes, job_payloads, job_bytes}
use Rattle.jobs.specs.Writing.{write_refusals, write_of, write_buffer}
use Rattle.jobs.specs.Reading.{first_word, further, number_from, behind, finish_from, range_from, axes_from, job_from}
use Rattle.jobs.specs.Cases.{FaultTable, NumberTable, WriteTable}

pub fault-table : FaultTable
unfolding bytes_of signed_of first_word further number_from behind finish_from range_from axes_from job_from
fault-table = (refl, refl, refl, refl, refl, refl, refl, refl, refl, refl, refl, refl, refl)

pub number-table : NumberTable
unfolding bytes_of signed_of first_word further number_from behind finish_from range_from axes_from job_from
number-table = (refl, refl, refl, refl, refl, refl, refl, refl, refl, refl)

pub write-table : WriteTable
unfolding first_of word_of bytes_of number_bytes fewest sent_of axes_bytes sent_bytes job_payloads job_bytes write_refusals write_of write_buffer
write-table = (refl, (refl, refl), (refl, refl), (refl, refl), (refl, refl))
