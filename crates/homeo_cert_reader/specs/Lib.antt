pub mod CertificateView
pub mod Read
pub mod inner
