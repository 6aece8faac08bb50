-- The laws that the layers above cite, by topic.

-- a header is read in one way: a file is refused for one fault at most, for none if it spells a header, and spells one at most
pub use Rattle.qc_layout.proofs.HeaderLaws.{one_fault, fault_or_header, one_header}
-- files that begin alike do so either way round; a header, a fault and the rules passed are the same, and as what they are read
pub use Rattle.qc_layout.proofs.Starts.{alike_back, header_from_start, fault_from_start, passes_from_start, read_as_from_start}
-- a file begins as its first bytes do, as many as its header takes, and the first 24 say how many that are
pub use Rattle.qc_layout.proofs.Starts.{begins, start_same}
-- A file of the form that is replayed that stands for a disk does so in this form, and the other way round if it passes the rules of
-- a header. Its first cluster has neither a table nor a stored cluster, and a file that has the same begins alike.
pub use Rattle.qc_layout.proofs.FirstForms.{standing_in_form, standing_by_format, first_cluster, first_alike}
