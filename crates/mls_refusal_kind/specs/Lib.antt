pub mod RefusalKinds
